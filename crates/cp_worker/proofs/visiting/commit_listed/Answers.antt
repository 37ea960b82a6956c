use Rattle.std.proofs.Common.{◌∙◌, ap, List, [], ◌∷◌, ◌++◌, ℕ}
use Rattle.cp_logic.specs.Views.{entry_of}
use Rattle.cp_hood.specs.Commits.{post_after}
use Rattle.cp_hood.proofs.Following.{legal-same}
use Rattle.cp_hood.proofs.Turns.{HoldsJust-same}
use Rattle.cp_worker.proofs.Centres.{after-prepared}
use Rattle.cp_worker.proofs.Commits.{current-same}
use Rattle.cp_worker.proofs.visiting.commit_listed.Goals as goal

pub returns-in_default-clause-holds : goal.returns-in_default-clause-holds
returns-in_default-clause-holds c = HoldsJust-same c.args.seat.now.view c.args.hood.now.cells c.prepare.new.self.cells c.prepare.ensures.same.variables c.prepare.ensures.same.lists c.requires.holds

pub commit-requires-clause-holds : goal.commit-requires-clause-holds
commit-requires-clause-holds c = HoldsJust-same c.args.seat.now.view c.args.hood.now.cells c.prepare.new.self.cells c.prepare.ensures.same.variables c.prepare.ensures.same.lists c.requires.holds

pub commit-requires-clause-legal : goal.commit-requires-clause-legal
commit-requires-clause-legal c = legal-same c.args.yard.now.base.rules c.args.hood.now c.prepare.new.self (entry_of c.args.entry) c.prepare.ensures.same c.requires.legal

pub returns-clause-post : goal.returns-clause-post
returns-clause-post c =
    let k = c.in_ok-receipt.ensures.commit in let v = c.args.seat.now.view in (
      k.0,
      k.1,
      k.2,
      record {
        before = k.3.0;
        turn = k.3.1;
        current = current-same v.base k.3.0 c.args.hood.now c.prepare.new.self c.prepare.ensures.same k.3.2;
        post = k.3.4;
        hood = after-prepared (post_after v.base k.3.0 v.number c.args.round (entry_of c.args.entry)).entry c.args.hood.now c.prepare.new.self c.commit.new.hood c.prepare.ensures.same k.3.5;
        position = c.push_reserved.ensures.items ∙ ap (λ (ns : List ℕ). ns ++ c.in_ok-receipt.receipt.position ∷ []) c.reserve.ensures.items
            ∙ ap (λ n. c.args.commits.now.items ++ n ∷ []) k.3.3;
      },
      tt,
    )
