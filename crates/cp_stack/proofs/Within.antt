-- A stack that is read has no more variables than the limit.
use Rattle.std.proofs.Common.{◌≡◌, ℕ, ◌≤◌, Bool, true, false, cond, List, [], Result, Ok, Err, refl, sym, ◌∙◌, ap, subst, arith, length}
use Rattle.std.specs.Prelude.{nat_lt, codes, IfOk}
use Rattle.std.proofs.lemmas.Bool.Decides.{nat_tests}
use Rattle.cp_io.specs.declared.limits.Limits.{Limits}
use Rattle.cp_io.specs.declared.limits.Limit.TheVariants.{Variables, Bytes}
use Rattle.cp_logic.specs.declared.pairs.Stack.{Stack as HeldStack}
use Rattle.cp_text.specs.Text.{Line}
use Rattle.cp_text.specs.Cut.{lines_within}
use Rattle.cp_stack.specs.declared.refusal.StackRefusal.{StackRefusal}
use Rattle.cp_stack.specs.declared.refusal.StackRefusal.TheVariants.{TooLarge}
use Rattle.cp_text.specs.Results.{◌>>=◌}
use Rattle.cp_stack.specs.Grammar.{Stack, Counted, Header, counted, variables_in, number_of_pairs, no_word, named, header, from_words, pairs_in, words_of, end_of, document, place_of, cut_at, stack_reads}
use Rattle.cp_stack.specs.Reads.{stack_of, AnswersStack}

-- a step that comes to a value began with one
pub record StepsTo {A B : Type 0} (r : Result A StackRefusal) (f : A → Result B StackRefusal) (b : B) : Type 0 where
  pub first : A
  pub is : r ≡ Ok first
  pub then : f first ≡ Ok b

steps : {A B : Type 0} (r : Result A StackRefusal) (f : A → Result B StackRefusal) (b : B) → (r >>= f) ≡ Ok b → StepsTo r f b
steps (Ok a) f b e = record { first = a; is = refl; then = e }
steps (Err x) f b e = cc

few : (most : ℕ) (v w : Counted) (t : Bool) → nat_lt most v.size ≡ t → cond t (Err (TooLarge Variables v.at)) (Ok v) ≡ Ok w → w.size ≤ most
few most v w true is e = cc
few most v w false is e = let same : v ≡ w = cc in let low : v.size ≤ most = grind (arith, nat_tests) in subst (λ (x : Counted). x.size ≤ most) same low

variables-few : (most : ℕ) (lines : List Line) (v : Counted) → variables_in most lines ≡ Ok v → v.size ≤ most
variables-few most lines v e = let s = steps (counted lines) _ v e in few most s.first v (nat_lt most s.first.size) refl s.then

header-few : (limits : Limits) (lines : List Line) (h : Header) → header limits lines ≡ Ok h → h.variables ≤ limits.variables
header-few limits lines h e =
    let s = steps (named (codes "p") lines >>= named (codes "stack") >>= named (codes "1") >>= variables_in limits.variables) _ h e in
    let v = steps (named (codes "p") lines >>= named (codes "stack") >>= named (codes "1")) (variables_in limits.variables) s.first s.is in
    let low = variables-few limits.variables v.first s.first v.then in
    let n = steps (number_of_pairs s.first.lines) _ h s.then in
    let w = steps (no_word n.first.lines) _ h n.then in
    let same : s.first.size ≡ h.variables = ap (λ (r : Result Header StackRefusal). size_in s.first.size r) w.then in
    subst (λ m. m ≤ limits.variables) same low
  where
    size_in : ℕ → Result Header StackRefusal → ℕ
    size_in d (Ok h) = h.variables
    size_in d (Err e) = d

document-few : (limits : Limits) (lines : List Line) (s : Stack) → document limits lines ≡ Ok s → s.variables ≤ limits.variables
document-few limits lines s e =
    let h = steps (header limits (from_words lines)) _ s e in
    let low = header-few limits (from_words lines) h.first h.is in
    let p = steps (pairs_in h.first.variables h.first.pairs [] (words_of h.first.lines) (end_of h.first.lines)) _ s h.then in
    let same : h.first.variables ≡ s.variables = ap (λ (r : Result Stack StackRefusal). variables_or h.first.variables r) p.then in
    subst (λ m. m ≤ limits.variables) same low
  where
    variables_or : ℕ → Result Stack StackRefusal → ℕ
    variables_or d (Ok s) = s.variables
    variables_or d (Err e) = d

pub stack-few : (limits : Limits) (bytes : List ℕ) (s : Stack) → stack_reads limits bytes ≡ Ok s → s.variables ≤ limits.variables
unfolding stack_reads
stack-few limits bytes s e = go (nat_lt limits.bytes (length bytes)) (document limits (lines_within limits.bytes bytes)) refl e
  where
    cut : (limit : ℕ) (r : Result Stack StackRefusal) → cut_at limit r ≡ Ok s → ⊥
    cut limit (Ok t) e = cc
    cut limit (Err x) e = cut_err (nat_lt (place_of x) limit) e
      where
        cut_err : (t : Bool) → cond t (Err x) (Err (TooLarge Bytes limit)) ≡ Ok s → ⊥
        cut_err true e = cc
        cut_err false e = cc

    go : (past : Bool) (r : Result Stack StackRefusal) → r ≡ document limits (lines_within limits.bytes bytes) → cond past (cut_at limits.bytes r) r ≡ Ok s → s.variables ≤ limits.variables
    go true r is e = absurd (cut limits.bytes r e)
    go false r is e = document-few limits (lines_within limits.bytes bytes) s (sym is ∙ e)

pub answers-few : (limits : Limits) (bytes : List ℕ) (result : Result HeldStack StackRefusal) → AnswersStack limits bytes result → IfOk result (λ s. s.vars ≤ limits.variables)
answers-few limits bytes (Ok s) e = stack-few limits bytes (stack_of s) e
answers-few limits bytes (Err x) e = tt
