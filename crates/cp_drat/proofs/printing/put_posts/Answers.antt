use Rattle.std.proofs.Common.{◌≡◌, ◌+◌, ◌∷◌, ◌++◌, true, false, drop, map, sym, ◌∙◌, ap}
use Rattle.std.proofs.lemmas.List.{at_drop_more}
use Rattle.std.proofs.lemmas.List.Concat.{flat_map-append}
use Rattle.cp_logic.specs.declared.entries.Post.{Post as HeldPost}
use Rattle.cp_logic.specs.Views.{entry_of, post_of}
use Rattle.cp_drat.specs.Log.{items_of, has_end, cut, log_of}
use Rattle.cp_drat.specs.Text.{log_text, item_text}
use Rattle.cp_io.specs.declared.role.Role.TheVariants.{Proof}
use Rattle.cp_drat.proofs.Cuts.{log_of-next, log_of-ended}
use Rattle.cp_io.proofs.PrintsUpTo.{Prints-step, Prints-last, Prints-start}
use Rattle.cp_drat.proofs.printing.put_posts.Goals as goal

pub loop-post-init : goal.loop-post-init
loop-post-init g c = record { prints = Prints-start Proof _ _ _; bound = c.requires }

pub returns-then-put_entry-clause-prints : goal.returns-then-put_entry-clause-prints
returns-then-put_entry-clause-prints g c =
    let posts = c.args.posts.now in
    let i = c.loop-post.post-index in
    let p = c.post-item.result in
    let rest = map (λ q. post_of q) (drop (i + 1) posts) in
    let some : has_end (items_of (entry_of p.entry)) ≡ true = sym c.put_entry.ensures.ends ∙ c.if-put_entry.true in
    let next : log_text c.args.form (log_of (map (λ q. post_of q) (drop i posts))) ≡ log_text c.args.form (cut (items_of (entry_of p.entry))) =
    at_drop_more (λ qs. log_text c.args.form (log_of (map (λ q. post_of q) qs))) posts i p c.loop-post-test.true
    ∙ ap (λ (q : HeldPost). log_text c.args.form (log_of (post_of q ∷ rest))) (sym c.post-item.is)
    ∙ ap (log_text c.args.form) (log_of-ended (post_of p) rest some) in
    Prints-last (log_text c.args.form (log_of (map (λ q. post_of q) posts))) (log_text c.args.form (log_of (map (λ q. post_of q) (drop i posts)))) next c.loop-post.invariant.prints c.put_entry.ensures.prints

pub loop-post-preserved : goal.loop-post-preserved
loop-post-preserved g c =
    let posts = c.args.posts.now in
    let i = c.loop-post.post-index in
    let p = c.post-item.result in
    let rest = map (λ q. post_of q) (drop (i + 1) posts) in
    let none : has_end (items_of (entry_of p.entry)) ≡ false = sym c.put_entry.ensures.ends ∙ c.if-put_entry.false in
    let next : log_text c.args.form (log_of (map (λ q. post_of q) (drop i posts))) ≡ log_text c.args.form (cut (items_of (entry_of p.entry))) ++ log_text c.args.form (log_of rest) =
    at_drop_more (λ qs. log_text c.args.form (log_of (map (λ q. post_of q) qs))) posts i p c.loop-post-test.true
    ∙ ap (λ (q : HeldPost). log_text c.args.form (log_of (post_of q ∷ rest))) (sym c.post-item.is)
    ∙ ap (log_text c.args.form) (log_of-next (post_of p) rest none) ∙ flat_map-append (item_text c.args.form) (cut (items_of (entry_of p.entry))) (log_of rest) in
    record {
      prints = Prints-step (log_text c.args.form (log_of (map (λ q. post_of q) posts))) (log_text c.args.form (log_of (map (λ q. post_of q) (drop i posts)))) (log_text c.args.form (log_of rest)) next c.loop-post.invariant.prints c.put_entry.ensures.prints;
      bound = c.put_entry.ensures.bound;
    }
