use Rattle.std.proofs.Common.{◌≡◌, [], ◌∷◌, List, length}
use Rattle.wesl_chains.specs.Outlines.{Path, Finder}
use Rattle.wesl_chains.specs.Chains.{Leads}
use Rattle.wesl_module_index.specs.Loaded.{AreTabled}
use Rattle.wesl_name_resolution.specs.Links.{symbol_of}
use Rattle.wesl_reachability.specs.Closing.{Seeks}
use Rattle.wesl_reachability.proofs.closing.Closing.seek.Given as goal

abbrev pub invariant-loop-item : goal.invariant-loop-item
invariant-loop-item l = record {
  seeks : Seeks l.modules (symbol_of l.fn.first, l.fn.before) ((symbol_of l.link, l.before) ∷ []) l.fn.self l.self;
  chain : (find : Finder) → AreTabled l.modules find → (ps : List Path) × Leads find (symbol_of l.fn.first) ps (symbol_of l.link) × (length ps ≡ l._item);
  done : l.self.done ≡ l.fn.self.done;
}
