-- The steps of the rules of a module's declarations, of their parts, and of modules, in the order of the rules: for lines of the grammar by label, and for rows and lists.
use Rattle.std.proofs.Common.{refl, ap, ℕ, [], ◌∷◌}
use Rattle.wgsl_token.specs.declared.token.Fixed.TheVariants as f
use Rattle.wgsl_print_laws.specs.OptionalMarks.{ends_operand}
use Rattle.wgsl_grammar_tables.specs.Grammars.{token, phrase}
use Rattle.wgsl_semantic_values.specs.declared.label.Label.TheVariants as l
use Rattle.wgsl_semantic_values.specs.declared.label.DeclarationLabel.TheVariants as decl
use Rattle.wgsl_grammar_tables.specs.Classes.{fixed_class}
use Rattle.wgsl_read_back.proofs.Rows.{Rebuild}
use Rattle.wgsl_read_back.proofs.Families.{Typed}
use Rattle.wgsl_read_back.proofs.AttributeRows.{AttributesRowed}
use Rattle.wgsl_read_back.proofs.Directives.{Directed}
use Rattle.wgsl_read_back.proofs.Imports.{Imported}
use Rattle.wgsl_read_back.proofs.Values.{ValueDeclared, Asserted}
use Rattle.wgsl_read_back.proofs.Blocks.{Blocked}
use Rattle.wgsl_read_back.proofs.Parameters.{Parametered, ParametersSeparated, ParametersListed, Resulted, typed_row, attributes_typed_row, result_row, attributes_result_row, typed_bare, typed_attributed, parameter_view, parameter_makes, first_parameter, more_parameters, parameters_without, parameters_with, result_bare, result_attributed}
use Rattle.wgsl_read_back.proofs.Members.{Membered, MembersSeparated, MembersListed, comma_row, member_view, member_makes, first_member, more_members, members_without, members_with}
use Rattle.wgsl_read_back.proofs.Declarations.{Declared, ended_row, attributes_ended_row, alias_row, attributes_alias_row, structure_row, attributes_structure_row, head_row, body_row, result_body_row, void_declared, global_bare, global_attributed, assertion_bare, assertion_attributed, alias_bare, alias_attributed, structure_bare, structure_attributed, function_of_none, function_of_none_returning, function_of_some, function_of_some_returning, function_attributed_of_none, function_attributed_of_none_returning, function_attributed_of_some, function_attributed_of_some_returning}
use Rattle.wgsl_read_back.proofs.ModuleRows.{ImportsRowed, DirectivesRowed, DeclarationsRowed, first_import, more_imports, first_directive, more_directives, first_declaration, more_declarations}
use Rattle.wgsl_read_back.proofs.Modules.{ModuleRead, module_of_imports_directives_declarations, module_of_imports_directives, module_of_imports_declarations, module_of_imports, module_of_directives_declarations, module_of_directives, module_of_declarations}
use Rattle.wgsl_read_back.proofs.Steps.{good_end, good_next, Is, As, Makes}

-- `;` alone: row decl.VoidDeclaration n.Declaration

pub s_void_declared : (k : ℕ) → Is Declared k → Makes k (token (fixed_class f.Semicolon) ∷ []) (l.Declaration decl.VoidDeclaration) (1 ∷ [])
s_void_declared k out rebuild _ _ (good_next _ i good_end) = out _ _ (void_declared k rebuild i)

-- decl.Global, of n.Var, of n.Override and of n.Const, each without attributes and then with them

pub s_global_bare : (k m : ℕ) → Is Declared k → As ValueDeclared m → Makes k (ended_row m) (l.Declaration decl.Global) (0 ∷ 2 ∷ 1 ∷ [])
s_global_bare k m out a rebuild _ _ (good_next _ h (good_next _ i good_end)) = out _ _ (global_bare k m rebuild (a _ _ h) i)

pub s_global_attributed : (k r m : ℕ) → Is Declared k → As AttributesRowed r → As ValueDeclared m → Makes k (attributes_ended_row r m) (l.Declaration decl.Global) (2 ∷ 2 ∷ 1 ∷ [])
s_global_attributed k r m out b a rebuild _ _ (good_next _ t (good_next _ h (good_next _ i good_end))) = out _ _ (global_attributed k r m rebuild (b _ _ t) (a _ _ h) i)

-- decl.Alias, of n.TypeExpression

pub s_alias_bare : (k m : ℕ) → Is Declared k → As Typed m → Makes k (alias_row m) (l.Declaration decl.Alias) (0 ∷ 1 ∷ 2 ∷ 1 ∷ 2 ∷ 1 ∷ [])
s_alias_bare k m out a rebuild _ _ (good_next _ g (good_next _ h (good_next _ i (good_next _ t (good_next _ j good_end))))) = out _ _ (alias_bare k m rebuild g h i (a _ _ t) j)

pub s_alias_attributed : (k r m : ℕ) → Is Declared k → As AttributesRowed r → As Typed m → Makes k (attributes_alias_row r m) (l.Declaration decl.Alias) (2 ∷ 1 ∷ 2 ∷ 1 ∷ 2 ∷ 1 ∷ [])
s_alias_attributed k r m out b a rebuild _ _ (good_next _ s (good_next _ g (good_next _ h (good_next _ i (good_next _ t (good_next _ j good_end)))))) = out _ _ (alias_attributed k r m rebuild (b _ _ s) g h i (a _ _ t) j)

-- decl.GlobalAssertion, of n.Assertion

pub s_assertion_bare : (k m : ℕ) → Is Declared k → As Asserted m → Makes k (ended_row m) (l.Declaration decl.GlobalAssertion) (0 ∷ 2 ∷ 1 ∷ [])
s_assertion_bare k m out a rebuild _ _ (good_next _ h (good_next _ i good_end)) = out _ _ (assertion_bare k m rebuild (a _ _ h) i)

pub s_assertion_attributed : (k r m : ℕ) → Is Declared k → As AttributesRowed r → As Asserted m → Makes k (attributes_ended_row r m) (l.Declaration decl.GlobalAssertion) (2 ∷ 2 ∷ 1 ∷ [])
s_assertion_attributed k r m out b a rebuild _ _ (good_next _ t (good_next _ h (good_next _ i good_end))) = out _ _ (assertion_attributed k r m rebuild (b _ _ t) (a _ _ h) i)

-- decl.Struct, of in_a_list n.Member

pub s_structure_bare : (k m : ℕ) → Is Declared k → As MembersListed m → Makes k (structure_row m) (l.Declaration decl.Struct) (0 ∷ 1 ∷ 2 ∷ 1 ∷ 2 ∷ 1 ∷ [])
s_structure_bare k m out a rebuild _ _ (good_next _ g (good_next _ h (good_next _ i (good_next _ t (good_next _ j good_end))))) = out _ _ (structure_bare k m rebuild g h i (a _ _ t) j)

pub s_structure_attributed : (k r m : ℕ) → Is Declared k → As AttributesRowed r → As MembersListed m → Makes k (attributes_structure_row r m) (l.Declaration decl.Struct) (2 ∷ 1 ∷ 2 ∷ 1 ∷ 2 ∷ 1 ∷ [])
s_structure_attributed k r m out b a rebuild _ _ (good_next _ s (good_next _ g (good_next _ h (good_next _ i (good_next _ t (good_next _ j good_end)))))) = out _ _ (structure_attributed k r m rebuild (b _ _ s) g h i (a _ _ t) j)

-- decl.Member

pub s_member_bare : (k m : ℕ) → Is Membered k → As Typed m → Makes k (typed_row m) (l.Declaration decl.Member) (0 ∷ 2 ∷ 1 ∷ 2 ∷ [])
s_member_bare k m out a rebuild _ _ (good_next _ h (good_next _ i (good_next _ t good_end))) = out _ _ (typed_bare member_view (l.Declaration decl.Member) (λ xs y t us. refl) member_makes (λ xs y t us b e. tt) k m rebuild h i (a _ _ t))

pub s_member_attributed : (k r m : ℕ) → Is Membered k → As AttributesRowed r → As Typed m → Makes k (attributes_typed_row r m) (l.Declaration decl.Member) (2 ∷ 2 ∷ 1 ∷ 2 ∷ [])
s_member_attributed k r m out b a rebuild _ _ (good_next _ s (good_next _ h (good_next _ i (good_next _ t good_end)))) = out _ _ (typed_attributed member_view (l.Declaration decl.Member) (λ xs y t us. refl) member_makes (λ xs y t us b e. tt) k r m rebuild (b _ _ s) h i (a _ _ t))

-- decl.Function: attributes, parameters and a result, each absent and then there, the last one first

pub s_function_of_none : (k b : ℕ) → Is Declared k → As Blocked b → Makes k (head_row (body_row b)) (l.Declaration decl.Function) (0 ∷ 1 ∷ 2 ∷ 1 ∷ 0 ∷ 1 ∷ 0 ∷ 2 ∷ [])
s_function_of_none k b out fb rebuild _ _ (good_next _ i1 (good_next _ i2 (good_next _ i3 (good_next _ i4 (good_next _ g good_end))))) = out _ _ (function_of_none k b rebuild i1 i2 i3 i4 (fb _ _ g))

pub s_function_of_none_returning : (k r b : ℕ) → Is Declared k → As Resulted r → As Blocked b → Makes k (head_row (result_body_row r b)) (l.Declaration decl.Function) (0 ∷ 1 ∷ 2 ∷ 1 ∷ 0 ∷ 1 ∷ 2 ∷ 2 ∷ [])
s_function_of_none_returning k r b out fr fb rebuild _ _ (good_next _ i1 (good_next _ i2 (good_next _ i3 (good_next _ i4 (good_next _ j (good_next _ g good_end)))))) = out _ _ (function_of_none_returning k r b rebuild i1 i2 i3 i4 (fr _ _ j) (fb _ _ g))

pub s_function_of_some : (k m b : ℕ) → Is Declared k → As ParametersListed m → As Blocked b → Makes k (head_row (phrase m ∷ body_row b)) (l.Declaration decl.Function) (0 ∷ 1 ∷ 2 ∷ 1 ∷ 2 ∷ 1 ∷ 0 ∷ 2 ∷ [])
s_function_of_some k m b out fp fb rebuild _ _ (good_next _ i1 (good_next _ i2 (good_next _ i3 (good_next _ p (good_next _ i4 (good_next _ g good_end)))))) = out _ _ (function_of_some k m b rebuild i1 i2 i3 (fp _ _ p) i4 (fb _ _ g))

pub s_function_of_some_returning : (k m r b : ℕ) → Is Declared k → As ParametersListed m → As Resulted r → As Blocked b → Makes k (head_row (phrase m ∷ result_body_row r b)) (l.Declaration decl.Function) (0 ∷ 1 ∷ 2 ∷ 1 ∷ 2 ∷ 1 ∷ 2 ∷ 2 ∷ [])
s_function_of_some_returning k m r b out fp fr fb rebuild _ _ (good_next _ i1 (good_next _ i2 (good_next _ i3 (good_next _ p (good_next _ i4 (good_next _ j (good_next _ g good_end))))))) = out _ _ (function_of_some_returning k m r b rebuild i1 i2 i3 (fp _ _ p) i4 (fr _ _ j) (fb _ _ g))

pub s_function_attributed_of_none : (k s b : ℕ) → Is Declared k → As AttributesRowed s → As Blocked b → Makes k (phrase s ∷ head_row (body_row b)) (l.Declaration decl.Function) (2 ∷ 1 ∷ 2 ∷ 1 ∷ 0 ∷ 1 ∷ 0 ∷ 2 ∷ [])
s_function_attributed_of_none k s b out fa fb rebuild _ _ (good_next _ h (good_next _ i1 (good_next _ i2 (good_next _ i3 (good_next _ i4 (good_next _ g good_end)))))) = out _ _ (function_attributed_of_none k s b rebuild (fa _ _ h) i1 i2 i3 i4 (fb _ _ g))

pub s_function_attributed_of_none_returning : (k s r b : ℕ) → Is Declared k → As AttributesRowed s → As Resulted r → As Blocked b → Makes k (phrase s ∷ head_row (result_body_row r b)) (l.Declaration decl.Function) (2 ∷ 1 ∷ 2 ∷ 1 ∷ 0 ∷ 1 ∷ 2 ∷ 2 ∷ [])
s_function_attributed_of_none_returning k s r b out fa fr fb rebuild _ _ (good_next _ h (good_next _ i1 (good_next _ i2 (good_next _ i3 (good_next _ i4 (good_next _ j (good_next _ g good_end))))))) = out _ _ (function_attributed_of_none_returning k s r b rebuild (fa _ _ h) i1 i2 i3 i4 (fr _ _ j) (fb _ _ g))

pub s_function_attributed_of_some : (k s m b : ℕ) → Is Declared k → As AttributesRowed s → As ParametersListed m → As Blocked b → Makes k (phrase s ∷ head_row (phrase m ∷ body_row b)) (l.Declaration decl.Function) (2 ∷ 1 ∷ 2 ∷ 1 ∷ 2 ∷ 1 ∷ 0 ∷ 2 ∷ [])
s_function_attributed_of_some k s m b out fa fp fb rebuild _ _ (good_next _ h (good_next _ i1 (good_next _ i2 (good_next _ i3 (good_next _ p (good_next _ i4 (good_next _ g good_end))))))) = out _ _ (function_attributed_of_some k s m b rebuild (fa _ _ h) i1 i2 i3 (fp _ _ p) i4 (fb _ _ g))

pub s_function_attributed_of_some_returning : (k s m r b : ℕ) → Is Declared k → As AttributesRowed s → As ParametersListed m → As Resulted r → As Blocked b → Makes k (phrase s ∷ head_row (phrase m ∷ result_body_row r b)) (l.Declaration decl.Function) (2 ∷ 1 ∷ 2 ∷ 1 ∷ 2 ∷ 1 ∷ 2 ∷ 2 ∷ [])
s_function_attributed_of_some_returning k s m r b out fa fp fr fb rebuild _ _ (good_next _ h (good_next _ i1 (good_next _ i2 (good_next _ i3 (good_next _ p (good_next _ i4 (good_next _ j (good_next _ g good_end)))))))) = out _ _ (function_attributed_of_some_returning k s m r b rebuild (fa _ _ h) i1 i2 i3 (fp _ _ p) i4 (fr _ _ j) (fb _ _ g))

-- decl.Parameter

pub s_parameter_bare : (k m : ℕ) → Is Parametered k → As Typed m → Makes k (typed_row m) (l.Declaration decl.Parameter) (0 ∷ 2 ∷ 1 ∷ 2 ∷ [])
s_parameter_bare k m out a rebuild _ _ (good_next _ h (good_next _ i (good_next _ t good_end))) = out _ _ (typed_bare parameter_view (l.Declaration decl.Parameter) (λ xs y t us. refl) parameter_makes (λ xs y t us b e. ap ends_operand e) k m rebuild h i (a _ _ t))

pub s_parameter_attributed : (k r m : ℕ) → Is Parametered k → As AttributesRowed r → As Typed m → Makes k (attributes_typed_row r m) (l.Declaration decl.Parameter) (2 ∷ 2 ∷ 1 ∷ 2 ∷ [])
s_parameter_attributed k r m out b a rebuild _ _ (good_next _ s (good_next _ h (good_next _ i (good_next _ t good_end)))) = out _ _ (typed_attributed parameter_view (l.Declaration decl.Parameter) (λ xs y t us. refl) parameter_makes (λ xs y t us b e. ap ends_operand e) k r m rebuild (b _ _ s) h i (a _ _ t))

-- decl.Result

pub s_result_bare : (k m : ℕ) → Is Resulted k → As Typed m → Makes k (result_row m) (l.Declaration decl.Result) (1 ∷ 0 ∷ 2 ∷ [])
s_result_bare k m out a rebuild _ _ (good_next _ i (good_next _ t good_end)) = out _ _ (result_bare k m rebuild i (a _ _ t))

pub s_result_attributed : (k r m : ℕ) → Is Resulted k → As AttributesRowed r → As Typed m → Makes k (attributes_result_row r m) (l.Declaration decl.Result) (1 ∷ 2 ∷ 2 ∷ [])
s_result_attributed k r m out b a rebuild _ _ (good_next _ i (good_next _ s (good_next _ t good_end))) = out _ _ (result_attributed k r m rebuild i (b _ _ s) (a _ _ t))

-- decl.Module: imports, directives and declarations, each absent and then there, the last one first. Those of declarations behind others have the rule without them, too.

pub s_module_of_declarations : (k g : ℕ) → Is ModuleRead k → As DeclarationsRowed g → Makes k (phrase g ∷ []) (l.Declaration decl.Module) (0 ∷ 0 ∷ 2 ∷ [])
s_module_of_declarations k g out fg rebuild _ _ (good_next _ j good_end) = out _ _ (module_of_declarations k g rebuild (fg _ _ j))

pub s_module_of_directives : (k d : ℕ) → Is ModuleRead k → As DirectivesRowed d → Makes k (phrase d ∷ []) (l.Declaration decl.Module) (0 ∷ 2 ∷ 0 ∷ [])
s_module_of_directives k d out fd rebuild _ _ (good_next _ q good_end) = out _ _ (module_of_directives k d rebuild (fd _ _ q))

pub s_module_of_directives_declarations : (k d g : ℕ) → Is ModuleRead k → As DirectivesRowed d → As DeclarationsRowed g → Rebuild k (phrase d ∷ []) (l.Declaration decl.Module) (0 ∷ 2 ∷ 0 ∷ []) → Makes k (phrase d ∷ phrase g ∷ []) (l.Declaration decl.Module) (0 ∷ 2 ∷ 2 ∷ [])
s_module_of_directives_declarations k d g out fd fg bare rebuild _ _ (good_next _ q (good_next _ j good_end)) = out _ _ (module_of_directives_declarations k d g rebuild bare (fd _ _ q) (fg _ _ j))

pub s_module_of_imports : (k i : ℕ) → Is ModuleRead k → As ImportsRowed i → Makes k (phrase i ∷ []) (l.Declaration decl.Module) (2 ∷ 0 ∷ 0 ∷ [])
s_module_of_imports k i out fi rebuild _ _ (good_next _ h good_end) = out _ _ (module_of_imports k i rebuild (fi _ _ h))

pub s_module_of_imports_declarations : (k i g : ℕ) → Is ModuleRead k → As ImportsRowed i → As DeclarationsRowed g → Rebuild k (phrase i ∷ []) (l.Declaration decl.Module) (2 ∷ 0 ∷ 0 ∷ []) → Makes k (phrase i ∷ phrase g ∷ []) (l.Declaration decl.Module) (2 ∷ 0 ∷ 2 ∷ [])
s_module_of_imports_declarations k i g out fi fg bare rebuild _ _ (good_next _ h (good_next _ j good_end)) = out _ _ (module_of_imports_declarations k i g rebuild bare (fi _ _ h) (fg _ _ j))

pub s_module_of_imports_directives : (k i d : ℕ) → Is ModuleRead k → As ImportsRowed i → As DirectivesRowed d → Makes k (phrase i ∷ phrase d ∷ []) (l.Declaration decl.Module) (2 ∷ 2 ∷ 0 ∷ [])
s_module_of_imports_directives k i d out fi fd rebuild _ _ (good_next _ h (good_next _ q good_end)) = out _ _ (module_of_imports_directives k i d rebuild (fi _ _ h) (fd _ _ q))

pub s_module_of_imports_directives_declarations : (k i d g : ℕ) → Is ModuleRead k → As ImportsRowed i → As DirectivesRowed d → As DeclarationsRowed g → Rebuild k (phrase i ∷ phrase d ∷ []) (l.Declaration decl.Module) (2 ∷ 2 ∷ 0 ∷ []) → Makes k (phrase i ∷ phrase d ∷ phrase g ∷ []) (l.Declaration decl.Module) (2 ∷ 2 ∷ 2 ∷ [])
s_module_of_imports_directives_declarations k i d g out fi fd fg bare rebuild _ _ (good_next _ h (good_next _ q (good_next _ j good_end))) = out _ _ (module_of_imports_directives_declarations k i d g rebuild bare (fi _ _ h) (fd _ _ q) (fg _ _ j))

-- in_a_row n.Import

pub s_first_import : (k m : ℕ) → Is ImportsRowed k → As Imported m → Makes k (phrase m ∷ []) l.First (2 ∷ [])
s_first_import k m out a rebuild _ _ (good_next _ h good_end) = out _ _ (first_import k m rebuild (a _ _ h))

pub s_more_imports : (k m : ℕ) → Is ImportsRowed k → As ImportsRowed k → As Imported m → Makes k (phrase k ∷ phrase m ∷ []) l.More (2 ∷ 2 ∷ [])
s_more_imports k m out b a rebuild _ _ (good_next _ g (good_next _ h good_end)) = out _ _ (more_imports k m rebuild (b _ _ g) (a _ _ h))

-- in_a_row n.Directive

pub s_first_directive : (k m : ℕ) → Is DirectivesRowed k → As Directed m → Makes k (phrase m ∷ []) l.First (2 ∷ [])
s_first_directive k m out a rebuild _ _ (good_next _ h good_end) = out _ _ (first_directive k m rebuild (a _ _ h))

pub s_more_directives : (k m : ℕ) → Is DirectivesRowed k → As DirectivesRowed k → As Directed m → Makes k (phrase k ∷ phrase m ∷ []) l.More (2 ∷ 2 ∷ [])
s_more_directives k m out b a rebuild _ _ (good_next _ g (good_next _ h good_end)) = out _ _ (more_directives k m rebuild (b _ _ g) (a _ _ h))

-- in_a_row n.Declaration (with the rule for the first one, too)

pub s_first_declaration : (k m : ℕ) → Is DeclarationsRowed k → As Declared m → Makes k (phrase m ∷ []) l.First (2 ∷ [])
s_first_declaration k m out a rebuild _ _ (good_next _ h good_end) = out _ _ (first_declaration k m rebuild (a _ _ h))

pub s_more_declarations : (k m : ℕ) → Is DeclarationsRowed k → As DeclarationsRowed k → As Declared m → Rebuild k (phrase m ∷ []) l.First (2 ∷ []) → Makes k (phrase k ∷ phrase m ∷ []) l.More (2 ∷ 2 ∷ [])
s_more_declarations k m out b a first rebuild _ _ (good_next _ g (good_next _ h good_end)) = out _ _ (more_declarations k m rebuild first (b _ _ g) (a _ _ h))

-- in_a_list n.Member: without a last comma, and with it (the phrase is derived again with the comma)

pub s_members_without : (k m : ℕ) → Is MembersListed k → As MembersSeparated m → Rebuild k (comma_row m) l.Pass (2 ∷ 1 ∷ []) → Makes k (phrase m ∷ []) l.Pass (2 ∷ [])
s_members_without k m out a closed rebuild _ _ (good_next _ h good_end) = out _ _ (members_without k m rebuild closed (a _ _ h))

pub s_members_with : (k m : ℕ) → Is MembersListed k → As MembersSeparated m → Makes k (comma_row m) l.Pass (2 ∷ 1 ∷ [])
s_members_with k m out a rebuild _ _ (good_next _ h (good_next _ i good_end)) = out _ _ (members_with k m rebuild (a _ _ h) i)

-- with_commas n.Member

pub s_first_member : (k m : ℕ) → Is MembersSeparated k → As Membered m → Makes k (phrase m ∷ []) l.First (2 ∷ [])
s_first_member k m out a rebuild _ _ (good_next _ h good_end) = out _ _ (first_member k m rebuild (a _ _ h))

pub s_more_members : (k m : ℕ) → Is MembersSeparated k → As MembersSeparated k → As Membered m → Makes k (phrase k ∷ token (fixed_class f.Comma) ∷ phrase m ∷ []) l.More (2 ∷ 1 ∷ 2 ∷ [])
s_more_members k m out b a rebuild _ _ (good_next _ g (good_next _ i (good_next _ h good_end))) = out _ _ (more_members k m rebuild (b _ _ g) i (a _ _ h))

-- in_a_list n.Parameter: without a last comma, and with it (the phrase is derived again without the comma)

pub s_parameters_without : (k m : ℕ) → Is ParametersListed k → As ParametersSeparated m → Makes k (phrase m ∷ []) l.Pass (2 ∷ [])
s_parameters_without k m out a rebuild _ _ (good_next _ h good_end) = out _ _ (parameters_without k m rebuild (a _ _ h))

pub s_parameters_with : (k m : ℕ) → Is ParametersListed k → As ParametersSeparated m → Rebuild k (phrase m ∷ []) l.Pass (2 ∷ []) → Makes k (phrase m ∷ token (fixed_class f.Comma) ∷ []) l.Pass (2 ∷ 1 ∷ [])
s_parameters_with k m out a bare rebuild _ _ (good_next _ h (good_next _ i good_end)) = out _ _ (parameters_with k m rebuild bare (a _ _ h) i)

-- with_commas n.Parameter

pub s_first_parameter : (k m : ℕ) → Is ParametersSeparated k → As Parametered m → Makes k (phrase m ∷ []) l.First (2 ∷ [])
s_first_parameter k m out a rebuild _ _ (good_next _ h good_end) = out _ _ (first_parameter k m rebuild (a _ _ h))

pub s_more_parameters : (k m : ℕ) → Is ParametersSeparated k → As ParametersSeparated k → As Parametered m → Makes k (phrase k ∷ token (fixed_class f.Comma) ∷ phrase m ∷ []) l.More (2 ∷ 1 ∷ 2 ∷ [])
s_more_parameters k m out b a rebuild _ _ (good_next _ g (good_next _ i (good_next _ h good_end))) = out _ _ (more_parameters k m rebuild (b _ _ g) i (a _ _ h))
