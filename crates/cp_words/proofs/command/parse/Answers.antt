use Rattle.std.proofs.Common.{◌≡◌, false, inl, inr, refl, true}
use Rattle.clap.specs.Words.{app_of}
use Rattle.cp_words.proofs.Taken.{simple_of, taken_none, taken_rows}
use Rattle.cp_words.proofs.command.parse.Goals as goal

pub returns-in-Ok-clause-found : goal.returns-in-Ok-clause-found
returns-in-Ok-clause-found c =
    taken_rows (app_of c.args.command) _ _ (c.in-Ok.ensures.kinds c.requires) ((c.in-Ok.ensures.matches (simple_of (app_of c.args.command) c.requires)).0)

pub returns-else-eq-clause-refused : goal.returns-else-eq-clause-refused
returns-else-eq-clause-refused c =
    elim (c.in-Err.ensures.kinds c.requires) [
      | inl none ↦
          let bad : false ≡ true = rw (c.kind.ensures, none) at c.if-eq.ensures in
          cc
      | inr among ↦ inr (refl, taken_none (app_of c.args.command) _ _ among)
    ]
