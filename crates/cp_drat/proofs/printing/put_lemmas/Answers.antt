use Rattle.std.proofs.Common.{◌≡◌, ◌+◌, ◌∷◌, ◌++◌, true, false, drop, map, sym, ◌∙◌, ap, refl}
use Rattle.std.proofs.lemmas.List.{at_drop_more, append-nil}
use Rattle.cp_logic.specs.declared.named.Named.{Named}
use Rattle.cp_drat.specs.Log.{lemma_of, is_end, has_end, cut}
use Rattle.cp_drat.specs.Text.{log_text, item_text}
use Rattle.cp_io.specs.declared.role.Role.TheVariants.{Proof}
use Rattle.cp_drat.proofs.Cuts.{cut-end, cut-next, has_end-next}
use Rattle.cp_io.proofs.PrintsUpTo.{Prints-step, Prints-last, Prints-start}
use Rattle.cp_drat.proofs.printing.put_lemmas.Goals as goal

pub loop-named-init : goal.loop-named-init
loop-named-init g c = record { prints = Prints-start Proof _ _ _; ends = refl; bound = c.requires }

pub returns-then-put_lemma-clause-prints : goal.returns-then-put_lemma-clause-prints
returns-then-put_lemma-clause-prints g c =
    let list = c.args.list.now in
    let i = c.loop-named.named-index in
    let d = c.named-item.result in
    let end : is_end (lemma_of d) ≡ true = sym c.put_lemma.ensures.ends ∙ c.if-put_lemma.true in
    let next : log_text c.args.form (cut (map lemma_of (drop i list))) ≡ item_text c.args.form (lemma_of d) =
    at_drop_more (λ cs. log_text c.args.form (cut (map lemma_of cs))) list i d c.loop-named-test.true
    ∙ ap (λ (e : Named). log_text c.args.form (cut (lemma_of e ∷ map lemma_of (drop (i + 1) list)))) (sym c.named-item.is)
    ∙ ap (log_text c.args.form) (cut-end (lemma_of d) (map lemma_of (drop (i + 1) list)) end) ∙ append-nil (item_text c.args.form (lemma_of d)) in
    Prints-last (log_text c.args.form (cut (map lemma_of list))) (log_text c.args.form (cut (map lemma_of (drop i list)))) next c.loop-named.invariant.prints c.put_lemma.ensures.prints

pub loop-named-preserved : goal.loop-named-preserved
loop-named-preserved g c =
    let list = c.args.list.now in
    let i = c.loop-named.named-index in
    let d = c.named-item.result in
    let more : is_end (lemma_of d) ≡ false = sym c.put_lemma.ensures.ends ∙ c.if-put_lemma.false in
    let next : log_text c.args.form (cut (map lemma_of (drop i list))) ≡ item_text c.args.form (lemma_of d) ++ log_text c.args.form (cut (map lemma_of (drop (i + 1) list))) =
    at_drop_more (λ cs. log_text c.args.form (cut (map lemma_of cs))) list i d c.loop-named-test.true
    ∙ ap (λ (e : Named). log_text c.args.form (cut (lemma_of e ∷ map lemma_of (drop (i + 1) list)))) (sym c.named-item.is)
    ∙ ap (log_text c.args.form) (cut-next (lemma_of d) (map lemma_of (drop (i + 1) list)) more) in
    let ends : has_end (map lemma_of (drop i list)) ≡ has_end (map lemma_of (drop (i + 1) list)) =
    at_drop_more (λ cs. has_end (map lemma_of cs)) list i d c.loop-named-test.true
    ∙ ap (λ (e : Named). has_end (lemma_of e ∷ map lemma_of (drop (i + 1) list))) (sym c.named-item.is)
    ∙ has_end-next (lemma_of d) (map lemma_of (drop (i + 1) list)) more in
    record {
      prints = Prints-step (log_text c.args.form (cut (map lemma_of list))) (log_text c.args.form (cut (map lemma_of (drop i list)))) (log_text c.args.form (cut (map lemma_of (drop (i + 1) list)))) next c.loop-named.invariant.prints c.put_lemma.ensures.prints;
      ends = sym ends ∙ c.loop-named.invariant.ends;
      bound = c.put_lemma.ensures.bound;
    }
