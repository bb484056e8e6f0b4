-- What comes of a reader over tokens.
use Rattle.std.specs.Prelude.{Bool, true, false, ◌≡◌, List, [], ◌∷◌}
use Rattle.wgsl_templates.specs.declared.meaning.kind.Kind.{Kind}
use Rattle.wgsl_templates.specs.declared.meaning.kind.Kind.TheVariants as k
use Rattle.wgsl_templates.specs.declared.recognizer.recognize.Answer.{Answer}
use Rattle.wgsl_templates.specs.declared.recognizer.recognize.Answer.TheVariants.{Unfinished}
use Rattle.wgsl_templates.specs.Actions.{Status, reading, ended, next}

-- the answer where the reader stands somewhere before these tokens
abbrev pub verdict : List Kind → Status → Answer
verdict [] (reading state frames) = Unfinished
verdict [] (ended answer) = answer
verdict (kind ∷ kinds) (reading state frames) = verdict kinds (next state frames kind)
verdict (kind ∷ kinds) (ended answer) = answer
