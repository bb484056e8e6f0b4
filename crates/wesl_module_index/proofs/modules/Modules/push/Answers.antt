use Rattle.std.proofs.Common.{rules, ◌≡◌, ◌+◌, ◌≤◌, sym, ◌∙◌, subst, [], ◌∷◌, ◌++◌, length, arith}
use Rattle.std.specs.Prelude.{string_bytes}
use Rattle.wesl_module_index.specs.Counts.{item_total, AreKeyed}
use Rattle.wesl_module_index.proofs.Pushed.{total_more, keyed_either}
use Rattle.wesl_module_index.proofs.modules.Modules.push.Goals as goal

pub invariant_of-self-2 : goal.invariant_of-self-2
invariant_of-self-2 c =
    let pushed : c.push.new.self.items ≡ c.args.self.now.list.items ++ c.args.«module» ∷ [] = c.in_ok-push.ensures.items in
    let text : string_bytes c.in_ok-text.text ≡ string_bytes c.args.«module».target.printed_path = c.in_ok-text.ensures.ok ∙ c.as_str.ensures.value in
    let number : c.len-number.result ≡ length c.args.self.now.list.items = search rules in
    let less : item_total c.args.self.now.list.items + length c.args.«module».items.items ≤ c.in-Some.count = first_of (search rules, omega (arith, c.in-Some.ensures)) in
    record {
      counted = rw pushed (total_more c.args.self.now.list.items c.args.«module» c.in-Some.count less);
      keyed = subst (AreKeyed c.note.new.numbers) (sym pushed)
          (keyed_either c.args.self.now.numbers c.note.new.numbers c.args.self.now.list.items c.args.«module» (string_bytes c.in_ok-text.text) c.len-number.result c.note.result text number
          c.note.ensures.noted c.note.ensures.same c.args.self.now.keyed);
    }
