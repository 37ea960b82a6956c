use Rattle.std.proofs.Common.{◌≡◌, ◌+◌, ◌∷◌, drop, map, sym, ◌∙◌, ap, cond, arith}
use Rattle.std.proofs.lemmas.List.{at_drop_more}
use Rattle.std.proofs.Math.ListN.{drop_of_length-le}
use Rattle.cp_logic.specs.declared.entries.Post.{Post as HeldPost}
use Rattle.cp_logic.specs.Views.{entry_of, post_of}
use Rattle.cp_summary.specs.Text.{count_of, is_of}
use Rattle.cp_summary.proofs.kinds.Kind.count_in.Goals as goal

pub loop-post-init : goal.loop-post-init
loop-post-init c = record { few = omega arith; whole = omega arith }

pub loop-post-preserved : goal.loop-post-preserved
loop-post-preserved c =
    let posts = c.args.posts.now in
    let i = c.loop-post.post-index in
    let p = c.post-item.result in
    let next : count_of c.args.self (map (λ q. post_of q) (drop i posts)) ≡ cond (is_of c.args.self (entry_of p.entry)) 1 0 + count_of c.args.self (map (λ q. post_of q) (drop (i + 1) posts)) =
    at_drop_more (λ qs. count_of c.args.self (map (λ q. post_of q) qs)) posts i p c.loop-post-test.true
    ∙ ap (λ (q : HeldPost). count_of c.args.self (post_of q ∷ map (λ r. post_of r) (drop (i + 1) posts))) (sym c.post-item.is) in
    let before = c.loop-post.invariant.whole in
    let value = c.one_of-count.ensures.value in
    record { few = omega arith; whole = omega arith }

pub returns : goal.returns
returns c =
    let posts = c.args.posts.now in
    let none : count_of c.args.self (map (λ q. post_of q) (drop c.loop-post.post-index posts)) ≡ 0 = ap (λ ps. count_of c.args.self (map (λ q. post_of q) ps)) (drop_of_length-le posts c.loop-post-test.false) in
    let before = c.loop-post.invariant.whole in
    omega arith
