use Rattle.std.proofs.Common.{◌≡◌, [], ◌∷◌, ◌++◌, false, sym, ◌∙◌, ap, subst, List, ℕ}
use Rattle.std.proofs.lemmas.List.{append-nil}
use Rattle.cp_io.specs.declared.role.Role.TheVariants.{Proof}
use Rattle.cp_io.specs.Prints.{Prints}
use Rattle.cp_io.proofs.Printing.{Prints-then}
use Rattle.cp_drat.specs.Log.{lemma_of, deletion_of, is_end, cut}
use Rattle.cp_drat.specs.Text.{log_text, item_text}
use Rattle.cp_drat.proofs.Cuts.{cut-next}
use Rattle.cp_drat.proofs.printing.put_shorter.Goals as goal

pub returns-clause-prints : goal.returns-clause-prints
returns-clause-prints g c =
    let new = lemma_of c.args.new.now in
    let old = deletion_of c.args.on.now in
    let more : is_end new ≡ false = sym c.put_lemma.ensures.ends ∙ c.if-put_lemma.false in
    let whole : log_text c.args.form (cut (new ∷ old ∷ [])) ≡ item_text c.args.form new ++ item_text c.args.form old = ap (log_text c.args.form) (cut-next new (old ∷ []) more) ∙ ap (λ t. item_text c.args.form new ++ t) (append-nil (item_text c.args.form old)) in
    subst (λ (t : List ℕ). Prints Proof t c.args.buffer.now (g.D.Desk.port c.args.desk.now) c.put_deletion.new.buffer (g.D.Desk.port c.put_deletion.new.desk)) (sym whole)
    (Prints-then c.put_lemma.ensures.prints c.put_deletion.ensures.prints)
