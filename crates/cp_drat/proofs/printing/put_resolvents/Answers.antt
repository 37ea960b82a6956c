use Rattle.std.proofs.Common.{◌≡◌, ◌++◌, true, false, map, sym, ◌∙◌, ap, subst, List, ℕ}
use Rattle.std.proofs.lemmas.List.Concat.{flat_map-append}
use Rattle.cp_io.specs.declared.role.Role.TheVariants.{Proof}
use Rattle.cp_io.specs.Prints.{Prints}
use Rattle.cp_io.proofs.Printing.{Prints-then}
use Rattle.cp_drat.specs.Log.{lemma_of, deletion_of, has_end, cut}
use Rattle.cp_drat.specs.Text.{log_text, item_text}
use Rattle.cp_drat.proofs.Cuts.{cut-append, cut-ended, cut-whole, has_end-append, has_end-ended, has_end-deletions}
use Rattle.cp_drat.proofs.printing.put_resolvents.Goals as goal

pub returns-then-put_lemmas-clause-prints : goal.returns-then-put_lemmas-clause-prints
returns-then-put_lemmas-clause-prints g c =
    let lemmas = map lemma_of c.args.new.now in
    let deletions = map deletion_of c.args.pos.now ++ map deletion_of c.args.neg.now in
    let some : has_end lemmas ≡ true = sym c.put_lemmas.ensures.ends ∙ c.if-put_lemmas.true in
    subst (λ (t : List ℕ). Prints Proof t c.args.buffer.now (g.D.Desk.port c.args.desk.now) c.put_lemmas.new.buffer (g.D.Desk.port c.put_lemmas.new.desk)) (sym (ap (log_text c.args.form) (cut-ended lemmas deletions some))) c.put_lemmas.ensures.prints

pub returns-then-put_lemmas-clause-ends : goal.returns-then-put_lemmas-clause-ends
returns-then-put_lemmas-clause-ends g c =
    sym (has_end-ended (map lemma_of c.args.new.now) (map deletion_of c.args.pos.now ++ map deletion_of c.args.neg.now) (sym c.put_lemmas.ensures.ends ∙ c.if-put_lemmas.true))

pub returns-clause-prints : goal.returns-clause-prints
returns-clause-prints g c =
    let lemmas = map lemma_of c.args.new.now in
    let pos = map deletion_of c.args.pos.now in
    let neg = map deletion_of c.args.neg.now in
    let none : has_end lemmas ≡ false = sym c.put_lemmas.ensures.ends ∙ c.if-put_lemmas.false in
    let whole : log_text c.args.form (cut (lemmas ++ (pos ++ neg))) ≡ log_text c.args.form (cut lemmas) ++ (log_text c.args.form pos ++ log_text c.args.form neg) =
    ap (log_text c.args.form) (cut-append lemmas (pos ++ neg) none ∙ ap (λ is. lemmas ++ is) (cut-whole (pos ++ neg) (has_end-deletions c.args.pos.now c.args.neg.now)))
    ∙ flat_map-append (item_text c.args.form) lemmas (pos ++ neg) ∙ ap (λ t. log_text c.args.form lemmas ++ t) (flat_map-append (item_text c.args.form) pos neg)
    ∙ ap (λ is. log_text c.args.form is ++ (log_text c.args.form pos ++ log_text c.args.form neg)) (sym (cut-whole lemmas none)) in
    subst (λ (t : List ℕ). Prints Proof t c.args.buffer.now (g.D.Desk.port c.args.desk.now) c.put_deletions-2.new.buffer (g.D.Desk.port c.put_deletions-2.new.desk)) (sym whole)
    (Prints-then c.put_lemmas.ensures.prints (Prints-then c.put_deletions.ensures.prints c.put_deletions-2.ensures.prints))

pub returns-clause-ends : goal.returns-clause-ends
returns-clause-ends g c =
    let deletions = map deletion_of c.args.pos.now ++ map deletion_of c.args.neg.now in
    sym (has_end-append (map lemma_of c.args.new.now) deletions (sym c.put_lemmas.ensures.ends ∙ c.if-put_lemmas.false) ∙ has_end-deletions c.args.pos.now c.args.neg.now)
