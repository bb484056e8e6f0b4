-- A visit of all parts calls its closure at all attributes.
use Rattle.std.proofs.Common.{◌≡◌, refl, ◌∙◌, List, Result}
use Rattle.std.specs.List.{flat_map}
use Rattle.wgsl_path.specs.declared.span.Spanned.{Spanned}
use Rattle.wgsl_expressions.specs.declared.attributes.attribute.Attribute.{Attribute}
use Rattle.wesl_visit_children.specs.Turns.{CalledInTurn, called_none, called_refusal, called_one, ChangedInTurn, changed_none, changed_refusal, changed_one}
use Rattle.wesl_visit_children.proofs.TurnsLemmas.{met_both, met_refusal_first, changed_both, changed_refusal_first}
use Rattle.wesl_visit_children.specs.Parts.{Part}
use Rattle.wesl_visit_children_mut.specs.Attributes.{in_part}
use Rattle.wesl_visit_children_mut.specs.Meeting.{Met, Changed}
use Rattle.wesl_visit_children_mut.specs.declared.attributes.parts.Reading.{Reading}
use Rattle.wesl_visit_children_mut.specs.declared.attributes.parts.Changing.{Changing}

pub all_met : {F E : Type 0} (step : F → Spanned Attribute → Result Unit E → F → Type 0) {s t : Reading F} {ps : List Part} {r : Result Unit E}
    → CalledInTurn (Met step) s ps r t → CalledInTurn step s.f.now (flat_map in_part ps) r t.f.now × (t.f.ghost_name ≡ s.f.ghost_name)
all_met step called_none = (called_none, refl)
all_met step (called_refusal {xs = ps} m) = (met_refusal_first step (flat_map in_part ps) m.called, m.same)
all_met step (called_one m ms) = (met_both step m.called (all_met step ms).0, (all_met step ms).1 ∙ m.same)

pub all_changed : {F E : Type 0} (step : F → Spanned Attribute → Result Unit E → F → Spanned Attribute → Type 0) {s t : Changing F} {ps qs : List Part} {r : Result Unit E}
    → ChangedInTurn (Changed step) s ps r t qs
    → ChangedInTurn step s.f.now (flat_map in_part ps) r t.f.now (flat_map in_part qs) × (t.f.ghost_name ≡ s.f.ghost_name)
all_changed step changed_none = (changed_none, refl)
all_changed step (changed_refusal {xs = ps} m) = (changed_refusal_first step (flat_map in_part ps) m.called, m.same)
all_changed step (changed_one m ms) = (changed_both step m.called (all_changed step ms).0, (all_changed step ms).1 ∙ m.same)
