use Rattle.std.proofs.Common.{◌≡◌, ℕ, ◌<◌, length, take, List, ◌∷◌, Err, sym, ap, ◌∙◌, subst, get_or, arith}
use Rattle.cp_hood.specs.Hoods.{Covers}
use Rattle.cp_hood.proofs.Rows.{length-front}
use Rattle.cp_logic.specs.Clauses.{contains, IsAscending}
use Rattle.cp_logic.proofs.Members.{in_contains}
use Rattle.cp_logic.proofs.SetFacts.{IsAscending-clause_of}
use Rattle.cp_occ.specs.Cells.{CellView, variables_of}
use Rattle.cp_yard.specs.Views.{Got, SeatView}
use Rattle.cp_hood.specs.declared.answers.HoodAnswer.{HoodAnswer}
use Rattle.cp_hood.specs.Tries.{IsTry}
use Rattle.cp_hood.proofs.Neighbours.{low-ascends, high-ascends, centre-is_near}
use Rattle.cp_hood.proofs.Tries as tries
use Rattle.cp_hood.proofs.Tries.{around, above, row-cut}
use Rattle.cp_hood.proofs.locking.lock_others.Goals as goal

pub position-at-requires-clause-ascending : goal.position-at-requires-clause-ascending
position-at-requires-clause-ascending c = subst IsAscending (sym c.requires.variables) (IsAscending-clause_of _)

pub position-at-requires-clause-there : goal.position-at-requires-clause-there
position-at-requires-clause-there c = let cell : CellView = c.args.centre in
    ap (contains c.args.vars.now) c.var-x.ensures.value ∙ (ap (λ (xs : List ℕ). contains xs cell.variable) c.requires.variables ∙ in_contains _ cell.variable (centre-is_near cell.variable cell.clauses))

pub lock_row-below-requires-clause-ascending : goal.lock_row-below-requires-clause-ascending
lock_row-below-requires-clause-ascending c = let cell : CellView = c.args.centre in let vars : List ℕ = c.args.vars.now in let at : ℕ = c.position-at.result in let seat : SeatView = c.args.seat.now.view in
    let near = around cell vars at c.var-x.result seat c.args.yard.now.base c.requires.variables c.position-at.ensures.within c.position-at.ensures.value c.var-x.ensures.value c.requires.holds c.requires.range c.requires.base in
    low-ascends cell (take at vars) (above at vars) near.ascending

pub lock_row-below-requires-clause-free : goal.lock_row-below-requires-clause-free
lock_row-below-requires-clause-free c = let cell : CellView = c.args.centre in let vars : List ℕ = c.args.vars.now in let at : ℕ = c.position-at.result in let seat : SeatView = c.args.seat.now.view in
    let near = around cell vars at c.var-x.result seat c.args.yard.now.base c.requires.variables c.position-at.ensures.within c.position-at.ensures.value c.var-x.ensures.value c.requires.holds c.requires.range c.requires.base in
    tries.low-is_free cell (take at vars) (above at vars) vars seat near

pub give_back-requires-clause-base : goal.give_back-requires-clause-base
give_back-requires-clause-base c = let cell : CellView = c.args.centre in let vars : List ℕ = c.args.vars.now in let at : ℕ = c.position-at.result in let seat : SeatView = c.args.seat.now.view in
    let near = around cell vars at c.var-x.result seat c.args.yard.now.base c.requires.variables c.position-at.ensures.within c.position-at.ensures.value c.var-x.ensures.value c.requires.holds c.requires.range c.requires.base in
    let low : List ℕ = take at vars in let high : List ℕ = above at vars in let one : SeatView = c.lock_row-below.new.seat.view in let cells : List CellView = c.lock_row-below.new.cells.items in let pushed : List CellView = c.push_reserved.new.self.items in
    let cut = row-cut low seat one c.args.room.items cells c.in-Err.answer c.in-Err.ensures.answer in
    tries.low-cut_base cell low high vars seat near one c.args.room.items cells pushed c.requires.room.0 c.push_reserved.ensures.items cut.0 cut.1 cut.3 ∙ c.requires.base

pub give_back-requires-clause-ascending : goal.give_back-requires-clause-ascending
give_back-requires-clause-ascending c = let cell : CellView = c.args.centre in let vars : List ℕ = c.args.vars.now in let at : ℕ = c.position-at.result in let seat : SeatView = c.args.seat.now.view in
    let near = around cell vars at c.var-x.result seat c.args.yard.now.base c.requires.variables c.position-at.ensures.within c.position-at.ensures.value c.var-x.ensures.value c.requires.holds c.requires.range c.requires.base in
    let low : List ℕ = take at vars in let high : List ℕ = above at vars in let one : SeatView = c.lock_row-below.new.seat.view in let cells : List CellView = c.lock_row-below.new.cells.items in let pushed : List CellView = c.push_reserved.new.self.items in
    let cut = row-cut low seat one c.args.room.items cells c.in-Err.answer c.in-Err.ensures.answer in
    tries.low-cut_ascends cell low high vars seat near one c.args.room.items cells pushed c.requires.room.0 c.push_reserved.ensures.items cut.0 cut.1 cut.3

pub give_back-requires-clause-holds : goal.give_back-requires-clause-holds
give_back-requires-clause-holds c = let cell : CellView = c.args.centre in let vars : List ℕ = c.args.vars.now in let at : ℕ = c.position-at.result in let seat : SeatView = c.args.seat.now.view in
    let near = around cell vars at c.var-x.result seat c.args.yard.now.base c.requires.variables c.position-at.ensures.within c.position-at.ensures.value c.var-x.ensures.value c.requires.holds c.requires.range c.requires.base in
    let low : List ℕ = take at vars in let high : List ℕ = above at vars in let one : SeatView = c.lock_row-below.new.seat.view in let cells : List CellView = c.lock_row-below.new.cells.items in let pushed : List CellView = c.push_reserved.new.self.items in
    let cut = row-cut low seat one c.args.room.items cells c.in-Err.answer c.in-Err.ensures.answer in
    tries.low-cut_holds cell low high vars seat near one c.args.room.items cells pushed c.requires.room.0 c.push_reserved.ensures.items cut.0 cut.1 cut.3

pub returns-in-Err-clause-tries : goal.returns-in-Err-clause-tries
returns-in-Err-clause-tries c = let cell : CellView = c.args.centre in let vars : List ℕ = c.args.vars.now in let at : ℕ = c.position-at.result in let seat : SeatView = c.args.seat.now.view in
    let near = around cell vars at c.var-x.result seat c.args.yard.now.base c.requires.variables c.position-at.ensures.within c.position-at.ensures.value c.var-x.ensures.value c.requires.holds c.requires.range c.requires.base in
    let low : List ℕ = take at vars in let high : List ℕ = above at vars in let one : SeatView = c.lock_row-below.new.seat.view in let cells : List CellView = c.lock_row-below.new.cells.items in let pushed : List CellView = c.push_reserved.new.self.items in
    let cut = row-cut low seat one c.args.room.items cells c.in-Err.answer c.in-Err.ensures.answer in
    let t = tries.low-cut_comes cell low high vars seat near one c.args.room.items cells pushed c.requires.room.0 c.push_reserved.ensures.items cut.0 cut.1 cut.3 c.give_back.new.seat.view c.give_back.ensures.same in
    (t.0, t.1, λ limit l. subst (λ (a : HoodAnswer). IsTry cell.variable limit (length seat.own.posts) (Got cell.variable cell.clauses (length seat.own.posts) ∷ t.0) (Err a)) (sym cut.2) (t.2 limit l))

pub lock_row-requires-clause-ascending : goal.lock_row-requires-clause-ascending
lock_row-requires-clause-ascending c = let cell : CellView = c.args.centre in let vars : List ℕ = c.args.vars.now in let at : ℕ = c.position-at.result in let seat : SeatView = c.args.seat.now.view in
    let near = around cell vars at c.var-x.result seat c.args.yard.now.base c.requires.variables c.position-at.ensures.within c.position-at.ensures.value c.var-x.ensures.value c.requires.holds c.requires.range c.requires.base in
    high-ascends cell (take at vars) (above at vars) near.ascending

pub lock_row-requires-clause-free : goal.lock_row-requires-clause-free
lock_row-requires-clause-free c = let cell : CellView = c.args.centre in let vars : List ℕ = c.args.vars.now in let at : ℕ = c.position-at.result in let seat : SeatView = c.args.seat.now.view in
    let near = around cell vars at c.var-x.result seat c.args.yard.now.base c.requires.variables c.position-at.ensures.within c.position-at.ensures.value c.var-x.ensures.value c.requires.holds c.requires.range c.requires.base in
    let low : List ℕ = take at vars in let high : List ℕ = above at vars in let one : SeatView = c.lock_row-below.new.seat.view in let cells : List CellView = c.lock_row-below.new.cells.items in let pushed : List CellView = c.push_reserved.new.self.items in
    tries.high-is_free cell low high vars seat near one c.args.room.items cells pushed c.requires.room.0 c.push_reserved.ensures.items c.in_default.ensures.ok

pub give_back-requires-in-Err-lock_row-clause-base : goal.give_back-requires-in-Err-lock_row-clause-base
give_back-requires-in-Err-lock_row-clause-base c = let cell : CellView = c.args.centre in let vars : List ℕ = c.args.vars.now in let at : ℕ = c.position-at.result in let seat : SeatView = c.args.seat.now.view in
    let near = around cell vars at c.var-x.result seat c.args.yard.now.base c.requires.variables c.position-at.ensures.within c.position-at.ensures.value c.var-x.ensures.value c.requires.holds c.requires.range c.requires.base in
    let low : List ℕ = take at vars in let high : List ℕ = above at vars in let one : SeatView = c.lock_row-below.new.seat.view in let cells : List CellView = c.lock_row-below.new.cells.items in let pushed : List CellView = c.push_reserved.new.self.items in
    let two : SeatView = c.lock_row.new.seat.view in let after : List CellView = c.lock_row.new.cells.items in
    let cut = row-cut high one two pushed after c.in-Err-lock_row.answer c.in-Err-lock_row.ensures.answer in
    tries.high-cut_base cell low high vars seat near one c.args.room.items cells pushed c.requires.room.0 c.push_reserved.ensures.items c.in_default.ensures.ok two after cut.0 cut.1 cut.3 ∙ c.requires.base

pub give_back-requires-in-Err-lock_row-clause-ascending : goal.give_back-requires-in-Err-lock_row-clause-ascending
give_back-requires-in-Err-lock_row-clause-ascending c = let cell : CellView = c.args.centre in let vars : List ℕ = c.args.vars.now in let at : ℕ = c.position-at.result in let seat : SeatView = c.args.seat.now.view in
    let near = around cell vars at c.var-x.result seat c.args.yard.now.base c.requires.variables c.position-at.ensures.within c.position-at.ensures.value c.var-x.ensures.value c.requires.holds c.requires.range c.requires.base in
    let low : List ℕ = take at vars in let high : List ℕ = above at vars in let one : SeatView = c.lock_row-below.new.seat.view in let cells : List CellView = c.lock_row-below.new.cells.items in let pushed : List CellView = c.push_reserved.new.self.items in
    let two : SeatView = c.lock_row.new.seat.view in let after : List CellView = c.lock_row.new.cells.items in
    let cut = row-cut high one two pushed after c.in-Err-lock_row.answer c.in-Err-lock_row.ensures.answer in
    tries.high-cut_ascends cell low high vars seat near one c.args.room.items cells pushed c.requires.room.0 c.push_reserved.ensures.items c.in_default.ensures.ok two after cut.0 cut.1 cut.3

pub give_back-requires-in-Err-lock_row-clause-holds : goal.give_back-requires-in-Err-lock_row-clause-holds
give_back-requires-in-Err-lock_row-clause-holds c = let cell : CellView = c.args.centre in let vars : List ℕ = c.args.vars.now in let at : ℕ = c.position-at.result in let seat : SeatView = c.args.seat.now.view in
    let near = around cell vars at c.var-x.result seat c.args.yard.now.base c.requires.variables c.position-at.ensures.within c.position-at.ensures.value c.var-x.ensures.value c.requires.holds c.requires.range c.requires.base in
    let low : List ℕ = take at vars in let high : List ℕ = above at vars in let one : SeatView = c.lock_row-below.new.seat.view in let cells : List CellView = c.lock_row-below.new.cells.items in let pushed : List CellView = c.push_reserved.new.self.items in
    let two : SeatView = c.lock_row.new.seat.view in let after : List CellView = c.lock_row.new.cells.items in
    let cut = row-cut high one two pushed after c.in-Err-lock_row.answer c.in-Err-lock_row.ensures.answer in
    tries.high-cut_holds cell low high vars seat near one c.args.room.items cells pushed c.requires.room.0 c.push_reserved.ensures.items c.in_default.ensures.ok two after cut.0 cut.1 cut.3

pub returns-in-Err-lock_row-clause-tries : goal.returns-in-Err-lock_row-clause-tries
returns-in-Err-lock_row-clause-tries c = let cell : CellView = c.args.centre in let vars : List ℕ = c.args.vars.now in let at : ℕ = c.position-at.result in let seat : SeatView = c.args.seat.now.view in
    let near = around cell vars at c.var-x.result seat c.args.yard.now.base c.requires.variables c.position-at.ensures.within c.position-at.ensures.value c.var-x.ensures.value c.requires.holds c.requires.range c.requires.base in
    let low : List ℕ = take at vars in let high : List ℕ = above at vars in let one : SeatView = c.lock_row-below.new.seat.view in let cells : List CellView = c.lock_row-below.new.cells.items in let pushed : List CellView = c.push_reserved.new.self.items in
    let two : SeatView = c.lock_row.new.seat.view in let after : List CellView = c.lock_row.new.cells.items in
    let cut = row-cut high one two pushed after c.in-Err-lock_row.answer c.in-Err-lock_row.ensures.answer in
    let t = tries.high-cut_comes cell low high vars seat near one c.args.room.items cells pushed c.requires.room.0 c.push_reserved.ensures.items c.in_default.ensures.ok two after cut.0 cut.1 cut.3 c.give_back-in-Err-lock_row.new.seat.view c.give_back-in-Err-lock_row.ensures.same in
    (t.0, t.1, λ limit l. subst (λ (a : HoodAnswer). IsTry cell.variable limit (length seat.own.posts) (Got cell.variable cell.clauses (length seat.own.posts) ∷ t.0) (Err a)) (sym cut.2) (t.2 limit l))

pub invariant_of-result : goal.invariant_of-result
invariant_of-result c = let cell : CellView = c.args.centre in let vars : List ℕ = c.args.vars.now in let at : ℕ = c.position-at.result in let seat : SeatView = c.args.seat.now.view in
    let near = around cell vars at c.var-x.result seat c.args.yard.now.base c.requires.variables c.position-at.ensures.within c.position-at.ensures.value c.var-x.ensures.value c.requires.holds c.requires.range c.requires.base in
    let low : List ℕ = take at vars in let high : List ℕ = above at vars in let one : SeatView = c.lock_row-below.new.seat.view in let cells : List CellView = c.lock_row-below.new.cells.items in let pushed : List CellView = c.push_reserved.new.self.items in
    let two : SeatView = c.lock_row.new.seat.view in let after : List CellView = c.lock_row.new.cells.items in
    let fits = tries.all-fits cell low high vars seat near one c.args.room.items cells pushed c.requires.room.0 c.push_reserved.ensures.items c.in_default.ensures.ok two after c.in_default-lock_row.ensures.ok c.var-x.result c.var-x.ensures.value c.var-x.ensures.valid in
    let near_at : at < length vars = c.position-at.ensures.within in let n : length (take at vars) ≡ at = length-front at vars (omega arith) in
    subst (λ (k : ℕ). (k < length after) × ((d : CellView) → (get_or after k d).variable ≡ c.var-x.result) × IsAscending (variables_of after) × Covers c.var-x.result after) n fits

pub returns-clause-tries : goal.returns-clause-tries
returns-clause-tries c = let cell : CellView = c.args.centre in let vars : List ℕ = c.args.vars.now in let at : ℕ = c.position-at.result in let seat : SeatView = c.args.seat.now.view in
    let near = around cell vars at c.var-x.result seat c.args.yard.now.base c.requires.variables c.position-at.ensures.within c.position-at.ensures.value c.var-x.ensures.value c.requires.holds c.requires.range c.requires.base in
    let low : List ℕ = take at vars in let high : List ℕ = above at vars in let one : SeatView = c.lock_row-below.new.seat.view in let cells : List CellView = c.lock_row-below.new.cells.items in let pushed : List CellView = c.push_reserved.new.self.items in
    let two : SeatView = c.lock_row.new.seat.view in let after : List CellView = c.lock_row.new.cells.items in
    tries.all-comes cell low high vars seat near one c.args.room.items cells pushed c.requires.room.0 c.push_reserved.ensures.items c.in_default.ensures.ok two after c.in_default-lock_row.ensures.ok c.var-x.result c.var-x.ensures.value

pub returns-clause-holds : goal.returns-clause-holds
returns-clause-holds c = let cell : CellView = c.args.centre in let vars : List ℕ = c.args.vars.now in let at : ℕ = c.position-at.result in let seat : SeatView = c.args.seat.now.view in
    let near = around cell vars at c.var-x.result seat c.args.yard.now.base c.requires.variables c.position-at.ensures.within c.position-at.ensures.value c.var-x.ensures.value c.requires.holds c.requires.range c.requires.base in
    let low : List ℕ = take at vars in let high : List ℕ = above at vars in let one : SeatView = c.lock_row-below.new.seat.view in let cells : List CellView = c.lock_row-below.new.cells.items in let pushed : List CellView = c.push_reserved.new.self.items in
    let two : SeatView = c.lock_row.new.seat.view in let after : List CellView = c.lock_row.new.cells.items in
    tries.all-held cell low high vars seat near one c.args.room.items cells pushed c.requires.room.0 c.push_reserved.ensures.items c.in_default.ensures.ok two after c.in_default-lock_row.ensures.ok
