use Rattle.std.proofs.Common.{◌≡◌, ℕ, List, [], ◌∷◌, ◌++◌, map, length, Some, ap, sym, ◌∙◌, subst}
use Rattle.std.specs.List.{range_with_len}
use Rattle.cp_logic.specs.Formulas.{Formula, IsWithin, find_number, occurrences}
use Rattle.cp_logic.specs.declared.named.Named.{Named}
use Rattle.cp_logic.specs.declared.settings.Rules.{Rules}
use Rattle.cp_logic.specs.Entries.{Taut, numbered}
use Rattle.cp_logic.specs.Legality.{is_legal_in}
use Rattle.cp_logic.specs.Journals.{Post}
use Rattle.std.specs.Option.{option_map, option_copied}
use Rattle.cp_book.proofs.Tautologies.{found-in, taut-legal}
use Rattle.cp_book.specs.Views.{BookView, current}
use Rattle.cp_occ.specs.Changes.{AreCellsOf}
use Rattle.cp_yard.specs.Views.{Base, SeatView, base_of}
use Rattle.cp_yard.specs.Rule.{IsLegal}
use Rattle.cp_yard.specs.Rows.{HasThree}
use Rattle.cp_yard.proofs.Closing.{AreAfter, AreAfter-from, AreCellsOf-length, variables-kept}
use Rattle.cp_yard.proofs.Rows.{holds_within, HasThree-after, Fits-fresh}
use Rattle.cp_yard.proofs.tests.post_and_unlock.Goals as goal

pub post-requires-clause-legal : goal.post-requires-clause-legal
post-requires-clause-legal c =
    let b = c.args.book in
    let k = c.in-Some.clause.now in
    let named : Named = record { number = 3; clause = k } in
    let found : Some k ≡ option_map (λ (d : Named). d.clause) (find_number (current b).clauses 3) =
    ap option_copied (sym c.in-Some.is) ∙ c.get.ensures ∙ ap (λ (f : Formula). option_map (λ (d : Named). d.clause) (find_number f.clauses 3)) c.clauses.ensures in
    ap (λ (d : BookView). is_legal_in (current d).clauses d.rules (Taut (record { number = 3; clause = c.in_ok-clause.clause }))) c.prepare.ensures.same
    ∙ ap (λ (z : List ℕ). is_legal_in (current b).clauses b.rules (Taut (record { number = 3; clause = z }))) c.in_ok-clause.ensures
    ∙ taut-legal (current b).clauses b.rules named
    (sym (ap (λ (r : Rules). r.choice.t) c.rules.ensures) ∙ c.if-not-rules.false)
    (found-in (current b).clauses 3 k found) (sym c.is_tautology.ensures ∙ c.if-not-is_tautology.false)

pub end_turn_with-receipt-requires-clause-post : goal.end_turn_with-receipt-requires-clause-post
end_turn_with-receipt-requires-clause-post c = let before : BookView = c.prepare.new.self in
    let same : before.posts ≡ c.args.book.posts = ap (λ (b : BookView). b.posts) c.in_ok-prepare.ensures.same in
    let p : Post = record { worker = c.number.result; round = 1; entry = numbered (current before).next (Taut (record { number = 3; clause = c.in_ok-clause.clause })) } in (
      c.args.book.posts,
      p,
      c.requires.turn.1,
      ap (λ (b : BookView). b.posts) c.in-Ok.ensures.ok ∙ ap (λ (ps : List Post). ps ++ p ∷ []) same,
      c.number.ensures,
      holds_within (record { number = 3; clause = c.in_ok-clause.clause }) c.args.seat.now.view.held (subst (IsWithin 3) (sym c.in_ok-clause.ensures) (c.is_within.ensures.0 c.if-not-is_within.false)) c.requires.held,
    )

pub unlock_all-requires-clause-cells : goal.unlock_all-requires-clause-cells
unlock_all-requires-clause-cells c = let before : BookView = c.prepare.new.self in let book : BookView = c.post.new.self in let f : Base = base_of book in
    let same : before.posts ≡ c.args.book.posts = ap (λ (b : BookView). b.posts) c.in_ok-prepare.ensures.same in
    let p : Post = record { worker = c.number.result; round = 1; entry = numbered (current before).next (Taut (record { number = 3; clause = c.in_ok-clause.clause })) } in
    let posts : book.posts ≡ c.args.book.posts ++ p ∷ [] = ap (λ (b : BookView). b.posts) c.in-Ok.ensures.ok ∙ ap (λ (ps : List Post). ps ++ p ∷ []) same in
    let base : f ≡ c.args.yard.now.base = ap base_of c.in-Ok.ensures.ok ∙ (ap base_of c.in_ok-prepare.ensures.same ∙ (c.requires.turn.0 ∙ c.requires.variables.1)) in
    let three_vars : f.formula.variables ≡ 3 = ap (λ (z : Base). z.formula.variables) base ∙ c.requires.variables.0 in
    let legal : IsLegal f book.posts = (c.is_legal.ensures.first, c.is_legal.ensures.journal) in
    let fresh : AreCellsOf (current book) c.in_ok-cells.cells.items = record {
      variables = c.in_ok-cells.ensures.variables ∙ ap (λ (z : Formula). range_with_len 1 z.variables) c.clauses-2.ensures;
      lists = c.in_ok-cells.ensures.clauses ∙ ap (λ (z : Formula). map (occurrences z.clauses) (range_with_len 1 z.variables)) c.clauses-2.ensures;
    } in
    let len : length c.in_ok-cells.cells.items ≡ 3 = AreCellsOf-length (current book) c.in_ok-cells.cells.items fresh ∙ (variables-kept f book.posts legal ∙ three_vars) in
    let after : AreAfter f book.posts 3 c.in_ok-cells.cells.items = subst (λ (n : ℕ). AreAfter f book.posts n c.in_ok-cells.cells.items) three_vars (AreAfter-from f book.posts c.in_ok-cells.cells.items legal fresh) in
    let o = c.end_turn_with-receipt.ensures in
    let three : HasThree c.end_turn_with-receipt.new.seat.view.held = HasThree-after p.entry c.args.seat.now.view.held _ c.requires.held (ap (λ (v : SeatView). v.held) (o.seat c.args.book.posts p c.requires.turn.1 posts)) in
    (len, Fits-fresh f book.posts c.in_ok-cells.cells.items c.end_turn_with-receipt.new.seat.view.held len after three o.held)
