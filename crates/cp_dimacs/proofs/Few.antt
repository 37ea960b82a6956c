-- What is read depends on the bytes within the limit and one more, and has no more clauses than the limit says.
use Rattle.std.proofs.Common.{◌≡◌, ℕ, ◌+◌, ◌≤◌, Bool, true, false, eqb, leb, ltb, cond, List, [], ◌∷◌, ◌++◌, length, take, drop, Result, Ok, Err, refl, ap, arith}
use Rattle.std.specs.Prelude.{◌||◌}
use Rattle.std.proofs.lemmas.Bool.{ltb-false}
use Rattle.cp_io.specs.declared.limits.Limits.{Limits}
use Rattle.cp_io.specs.declared.limits.Limit.TheVariants.{Variables, Clauses, Literals, Bytes}
use Rattle.cp_logic.specs.Formulas.{Formula}
use Rattle.cp_text.specs.Text.{Word, Line, lines_from}
use Rattle.cp_text.specs.Numbers.{NumberWord}
use Rattle.cp_text.specs.Cut.{goes_on}
use Rattle.cp_text.proofs.Cuts.{take_within, goes_on-within, longer-within}
use Rattle.std.proofs.Math.Numerals.{add-one}
use Rattle.cp_dimacs.specs.declared.refusal.CnfRefusal.{CnfRefusal}
use Rattle.cp_dimacs.specs.declared.refusal.CnfRefusal.TheVariants.{BadInput, TooLarge}
use Rattle.cp_dimacs.specs.declared.refusal.InputKind.TheVariants.{OpenClause}
use Rattle.cp_dimacs.specs.Written.{formula_of}
use Rattle.cp_text.specs.Cut.{whole_words}
use Rattle.cp_logic.specs.Signs.{signed}
use Rattle.cp_text.specs.Results.{◌>>=◌}
use Rattle.cp_dimacs.specs.Grammar.{number_at, is_comment, header, body, clauses_from, clauses_in, document, stands_before, judged, reads}

-- ---- the bytes

pub reads-within : (limits : Limits) (input : List ℕ) → reads limits (take (limits.bytes + 1) input) ≡ reads limits input
unfolding reads
reads-within limits input = rw (add-one, take_within limits.bytes input, goes_on-within limits.bytes input, longer-within limits.bytes input) refl

-- ---- the clauses

-- the clauses from a number on keep the limit
abbrev AreFew : Limits → ℕ → Result (List (List ℕ)) CnfRefusal → Type 0
AreFew limits number (Ok cs) = number + length cs ≤ limits.clauses + 1
AreFew limits number (Err refusal) = Unit {0}

at_end : (limits : Limits) (number end : ℕ) (b : Bool) → number ≤ limits.clauses + 1 → AreFew limits number (cond b (Ok []) (Err (BadInput end OpenClause)))
at_end limits number end true low = omega arith
at_end limits number end false low = tt

one_more : (limits : Limits) (number : ℕ) (open_clause : List ℕ) (found : Result (List (List ℕ)) CnfRefusal) → AreFew limits (number + 1) found → AreFew limits number (found >>= λ clauses. Ok (open_clause ∷ clauses))
one_more limits number open_clause (Ok cs) few = omega arith
one_more limits number open_clause (Err refusal) few = tt

at_number : (limits : Limits) (number : ℕ) (open_clause : List ℕ) (zero full far many : Bool) (a b c : CnfRefusal) (ended next : Result (List (List ℕ)) CnfRefusal) → (full ≡ false → AreFew limits (number + 1) ended) → AreFew limits number next
    → AreFew limits number (cond zero (cond full (Err a) (ended >>= λ clauses. Ok (open_clause ∷ clauses))) (cond far (Err b) (cond many (Err c) next)))
at_number limits number open_clause true true far many a b c ended next few more = tt
at_number limits number open_clause true false far many a b c ended next few more = one_more limits number open_clause ended (few refl)
at_number limits number open_clause false full true many a b c ended next few more = tt
at_number limits number open_clause false full false true a b c ended next few more = tt
at_number limits number open_clause false full false false a b c ended next few more = more

few : (limits : Limits) (number n : ℕ) (open_clause : List ℕ) (words : List Word) (end : ℕ) → number ≤ limits.clauses + 1 → AreFew limits number (clauses_from limits number n open_clause words end)
few limits number n open_clause [] end low = at_end limits number end (eqb (length open_clause) 0) low
few limits number n open_clause (w ∷ words) end low =
    found (number_at w)
    (λ room. let most : number ≤ limits.clauses = ltb-false limits.clauses number room in few limits (number + 1) n [] words end (omega arith))
    (λ k. few limits number (n + 1) (open_clause ++ signed k.positive k.size ∷ []) words end low)
  where
    found : (r : Result NumberWord CnfRefusal) → (ltb limits.clauses number ≡ false → AreFew limits (number + 1) (clauses_from limits (number + 1) n [] words end)) → ((k : NumberWord) → AreFew limits number (clauses_from limits number (n + 1) (open_clause ++ signed k.positive k.size ∷ []) words end))
        → AreFew limits number
        (r >>= λ k. cond (eqb k.size 0) (cond (ltb limits.clauses number) (Err (TooLarge Clauses w.at)) (clauses_from limits (number + 1) n [] words end >>= λ clauses. Ok (open_clause ∷ clauses)))
        (cond (ltb limits.variables k.size) (Err (TooLarge Variables w.at)) (cond (leb limits.literals n) (Err (TooLarge Literals w.at)) (clauses_from limits number (n + 1) (open_clause ++ signed k.positive k.size ∷ []) words end))))
    found (Err refusal) ended next = tt
    found (Ok k) ended next = at_number limits number open_clause (eqb k.size 0) (ltb limits.clauses number) (ltb limits.variables k.size) (leb limits.literals n) (TooLarge Clauses w.at) (TooLarge Variables w.at) (TooLarge Literals w.at)
        (clauses_from limits (number + 1) n [] words end) (clauses_from limits number (n + 1) (open_clause ++ signed k.positive k.size ∷ []) words end) ended (next k)

-- ---- the document

abbrev HasFew : Limits → Result (Formula × Bool) CnfRefusal → Type 0
HasFew limits (Ok (f, ended)) = f.next ≤ limits.clauses + 1
HasFew limits (Err refusal) = Unit {0}

of_clauses : (limits : Limits) (v : ℕ) (ended : Bool) (found : Result (List (List ℕ)) CnfRefusal) → AreFew limits 1 found
    → HasFew limits ((found >>= λ clauses. let p : Result (List (List ℕ) × Bool) CnfRefusal = Ok (clauses, ended) in p) >>= λ p. Ok (formula_of v p.0, p.1))
of_clauses limits v ended (Ok cs) few = omega arith
of_clauses limits v ended (Err refusal) few = tt

of_lines : (limits : Limits) (cut : Bool) (most : ℕ) (lines : List Line) → HasFew limits (document limits cut most lines)
of_lines limits cut most [] = tt
of_lines limits cut most (line ∷ lines) = passed (is_comment line || eqb (length (whole_words cut most line.words)) 0) (of_lines limits cut most lines)
  where
    named : (r : Result ℕ CnfRefusal) → HasFew limits (r >>= λ variables. clauses_in limits cut most lines >>= λ found. Ok (formula_of variables found.0, found.1))
    named (Err refusal) = tt
    named (Ok v) = let b = body cut most lines in of_clauses limits v b.ended (clauses_from limits 1 0 [] b.words b.end) (few limits 1 0 [] b.words b.end (omega arith))

    passed : (b : Bool) → HasFew limits (document limits cut most lines) → HasFew limits (cond b (document limits cut most lines) (header limits (whole_words cut most line.words) line.end >>= λ variables. clauses_in limits cut most lines >>= λ found. Ok (formula_of variables found.0, found.1)))
    passed true more = more
    passed false more = named (header limits (whole_words cut most line.words) line.end)

of_judged : (limits : Limits) (past : Bool) (limit : ℕ) (found : Result (Formula × Bool) CnfRefusal) (f : Formula) → HasFew limits found → judged past limit found ≡ Ok f → f.next ≤ limits.clauses + 1
of_judged limits false limit (Ok (g, ended)) f few is = let same : g ≡ f = cc in omega (arith, ap (λ (h : Formula). h.next) same)
of_judged limits false limit (Err refusal) f few is = absurd cc
of_judged limits true limit (Ok (g, true)) f few is = let same : g ≡ f = cc in omega (arith, ap (λ (h : Formula). h.next) same)
of_judged limits true limit (Ok (g, false)) f few is = absurd cc
of_judged limits true limit (Err refusal) f few is = absurd (not_ok (stands_before limit refusal) is)
  where
    not_ok : (b : Bool) → (cond b (Err refusal) (Err (TooLarge Bytes limit))) ≡ Ok f → ⊥
    not_ok true e = cc
    not_ok false e = cc

pub reads-few : (limits : Limits) (input : List ℕ) (f : Formula) → reads limits input ≡ Ok f → f.next ≤ limits.clauses + 1
unfolding reads
reads-few limits input f is =
    let text : List ℕ = take limits.bytes input in
    of_judged limits (ltb limits.bytes (length input)) limits.bytes (document limits (goes_on (drop limits.bytes input)) (length text) (lines_from 0 text)) f
    (of_lines limits (goes_on (drop limits.bytes input)) (length text) (lines_from 0 text)) is
