-- From the reading of the lines behind a header to what an input reads as.
use Rattle.std.proofs.Common.{◌≡◌, ℕ, ◌+◌, max, Bool, true, false, List, [], ◌∷◌, ◌++◌, length, map, take, Result, Ok, Err, refl, sym, ◌∙◌, ap, subst, append_assoc, arith}
use Rattle.std.proofs.lemmas.List.{append-nil}
use Rattle.cp_io.specs.declared.limits.Limits.{Limits}
use Rattle.cp_logic.specs.declared.named.Named.{Named}
use Rattle.cp_logic.specs.Clauses.{clause_of}
use Rattle.cp_logic.specs.Entries.{numbered_from}
use Rattle.cp_logic.specs.Formulas.{Formula, IsFormula}
use Rattle.cp_logic.specs.Slots.{Held}
use Rattle.cp_text.specs.declared.ahead.Ahead.{Ahead}
use Rattle.cp_text.specs.declared.cut.Seen.{Seen}
use Rattle.cp_text.specs.Ahead.{text_end}
use Rattle.cp_text.specs.Text.{Line, lines_from}
use Rattle.cp_text.specs.Cut.{IsSeen}
use Rattle.cp_dimacs.specs.declared.clauses.Reading.{Reading}
use Rattle.cp_dimacs.specs.declared.parse.Found.{Found}
use Rattle.cp_dimacs.specs.declared.refusal.CnfRefusal.{CnfRefusal}
use Rattle.cp_dimacs.specs.declared.refusal.CnfRefusal.TheVariants.{BadInput, TooLarge, NoMemory}
use Rattle.cp_dimacs.specs.Written.{greatest_of, greatest_in, formula_of, with_clauses}
use Rattle.cp_text.specs.Results.{◌>>=◌}
use Rattle.cp_dimacs.specs.Grammar.{body, clauses_from, document, judged, reads}
use Rattle.cp_dimacs.specs.Lines.{resume_lines}
use Rattle.cp_dimacs.specs.Document.{document_of, document_ahead, AnswersDocument, AnswersJudge, formula_in}
use Rattle.cp_dimacs.specs.Reads.{AnswersCnf, IsRead}
use Rattle.cp_io.specs.Feeding.{ReaderState}
use Rattle.cp_dimacs.specs.Reader.{Finishes}
use Rattle.cp_dimacs.proofs.Few.{reads-within, reads-few}
use Rattle.std.specs.Prelude.{IfOk}

-- ---- the formula of clauses

same_formula : (v w n m : ℕ) (cs ds : List Named) → v ≡ w → n ≡ m → cs ≡ ds → (let f : Formula = record { variables = v; next = n; clauses = cs } in f) ≡ record { variables = w; next = m; clauses = ds }
same_formula v w n m cs ds a b c = rw (a, b, c) refl

with_clauses-is : (v n : ℕ) (ds : List Named) (cs : List (List ℕ)) → with_clauses (record { variables = v; next = n; clauses = ds }) cs ≡ record { variables = max v (greatest_in cs); next = n + length cs; clauses = ds ++ numbered_from n (map clause_of cs) }
with_clauses-is v n ds [] = same_formula v (max v 0) n (n + 0) ds (ds ++ []) (omega arith) (omega arith) (sym (append-nil ds))
with_clauses-is v n ds (c ∷ cs) =
    let d : Named = record { number = n; clause = clause_of c } in
    with_clauses-is (max v (greatest_of c)) (n + 1) (ds ++ d ∷ []) cs
    ∙ same_formula (max (max v (greatest_of c)) (greatest_in cs)) (max v (greatest_in (c ∷ cs))) (n + 1 + length cs) (n + length (c ∷ cs)) ((ds ++ d ∷ []) ++ numbered_from (n + 1) (map clause_of cs)) (ds ++ numbered_from n (map clause_of (c ∷ cs))) (omega arith) (omega arith) (append_assoc ds (d ∷ []) (numbered_from (n + 1) (map clause_of cs)))

-- the formula before any clause
abbrev pub nothing : ℕ → Formula
nothing v = record { variables = v; next = 1; clauses = [] }

formula_of-is : (v : ℕ) (cs : List (List ℕ)) → formula_of v cs ≡ with_clauses (nothing v) cs
formula_of-is v cs = same_formula (max v (greatest_in cs)) (max v (greatest_in cs)) (length cs + 1) (1 + length cs) (numbered_from 1 (map clause_of cs)) (numbered_from 1 (map clause_of cs)) refl (omega arith) refl ∙ sym (with_clauses-is v 1 [] cs)

-- ---- the lines behind the header

found-is : (v : ℕ) (ended : Bool) (found : Result (List (List ℕ)) CnfRefusal)
    → ((found >>= λ clauses. let p : Result (List (List ℕ) × Bool) CnfRefusal = Ok (clauses, ended) in p) >>= λ p. let q : Result (Formula × Bool) CnfRefusal = Ok (formula_of v p.0, p.1) in q)
    ≡ ((found >>= λ clauses. let q : Result Formula CnfRefusal = Ok (with_clauses (nothing v) clauses) in q) >>= λ f. Ok (f, ended))
found-is v ended (Ok cs) = ap (λ (f : Formula). let r : Result (Formula × Bool) CnfRefusal = Ok (f, ended) in r) (formula_of-is v cs)
found-is v ended (Err refusal) = refl

pub start : (limits : Limits) (cut : Bool) (most v : ℕ) (r : Reading) (lines : List Line) → r.formula.formula ≡ nothing v → r.open_clause.items ≡ [] → r.literals ≡ 0 → document_of limits cut most v lines ≡ resume_lines limits cut most r lines
start limits cut most v r lines formula none fresh =
    let b = body cut most lines in
    found-is v b.ended (clauses_from limits 1 0 [] b.words b.end)
    ∙ rw (formula, none, fresh) refl

-- the same, where the header was found
pub document-found : (limits : Limits) (a : Ahead) (v at : ℕ) (rest : List ℕ) (r : Reading) (answer : Result (Formula × Bool) CnfRefusal)
    → document_ahead limits a ≡ document_of limits a.cut (text_end a) v (lines_from (at + 1) rest) → at + 1 + length rest ≡ text_end a
    → r.formula.formula ≡ nothing v → r.open_clause.items ≡ [] → r.literals ≡ 0 → resume_lines limits a.cut (at + 1 + length rest) r (lines_from (at + 1) rest) ≡ answer → document_ahead limits a ≡ answer
document-found limits a v at rest r answer found reaches formula none fresh is =
    found
    ∙ ap (λ n. document_of limits a.cut n v (lines_from (at + 1) rest)) (sym reaches)
    ∙ start limits a.cut (at + 1 + length rest) v r (lines_from (at + 1) rest) formula none fresh
    ∙ is

-- ---- the input

same : (limits : Limits) (input : List ℕ) (result : Result Held CnfRefusal) → formula_in result ≡ reads limits input → AnswersCnf limits input result
same limits input (Ok f) is = sym is
same limits input (Err NoMemory) is = tt
same limits input (Err (BadInput at kind)) is = sym is
same limits input (Err (TooLarge limit at)) is = sym is

no_memory : (limits : Limits) (input : List ℕ) (past : Bool) (limit : ℕ) (result : Result Held CnfRefusal) → formula_in result ≡ judged past limit (Err NoMemory) → AnswersCnf limits input result
no_memory limits input past limit (Err NoMemory) is = tt
no_memory limits input true limit (Ok f) is = absurd cc
no_memory limits input false limit (Ok f) is = absurd cc
no_memory limits input true limit (Err (BadInput at kind)) is = absurd cc
no_memory limits input false limit (Err (BadInput at kind)) is = absurd cc
no_memory limits input true limit (Err (TooLarge which at)) is = absurd cc
no_memory limits input false limit (Err (TooLarge which at)) is = absurd cc

reads-seen : (limits : Limits) (input : List ℕ) (seen : Seen) → IsSeen limits.bytes input seen → reads limits input ≡ judged seen.past limits.bytes (document limits seen.ahead.cut (length seen.ahead.text.now) (lines_from 0 seen.ahead.text.now))
unfolding reads
reads-seen limits input seen is = rw (is.text, is.cut, is.past) refl

reads-is : (limits : Limits) (input : List ℕ) (seen : Seen) → IsSeen limits.bytes input seen → reads limits input ≡ judged seen.past limits.bytes (document_ahead limits seen.ahead)
reads-is limits input seen is =
    let text = seen.ahead.text.now in
    let end : length text ≡ text_end seen.ahead = omega (arith, is.start) in
    reads-seen limits input seen is
    ∙ ap (λ n. judged seen.past limits.bytes (document limits seen.ahead.cut n (lines_from 0 text))) end
    ∙ ap (λ p. judged seen.past limits.bytes (document limits seen.ahead.cut (text_end seen.ahead) (lines_from p text))) (sym is.start)

pub answers : (limits : Limits) (input : List ℕ) (seen : Seen) (found : Result Found CnfRefusal) (result : Result Held CnfRefusal) → IsSeen limits.bytes input seen → AnswersDocument (document_ahead limits seen.ahead) found
    → AnswersJudge found seen.past limits.bytes result → AnswersCnf limits input result
answers limits input seen (Ok found) result is document_is judge_is = same limits input result (judge_is ∙ ap (judged seen.past limits.bytes) (sym document_is) ∙ sym (reads-is limits input seen is))
answers limits input seen (Err NoMemory) result is document_is judge_is = no_memory limits input seen.past limits.bytes result judge_is
answers limits input seen (Err (BadInput at kind)) result is document_is judge_is = same limits input result (judge_is ∙ ap (judged seen.past limits.bytes) (sym document_is) ∙ sym (reads-is limits input seen is))
answers limits input seen (Err (TooLarge which at)) result is document_is judge_is = same limits input result (judge_is ∙ ap (judged seen.past limits.bytes) (sym document_is) ∙ sym (reads-is limits input seen is))

-- ---- a reader

pub valid-read : (limits : Limits) (input : List ℕ) (result : Result Held CnfRefusal) → AnswersCnf limits input result → IfOk result (λ f. IsFormula f.formula) → IfOk result (λ f. IsRead limits f.formula)
valid-read limits input (Ok f) answer valid = record { valid = valid; few = reads-few limits input f.formula answer }
valid-read limits input (Err refusal) answer valid = tt

pub all-read : (limits : Limits) (input all : List ℕ) (result : Result Held CnfRefusal) → input ≡ take (limits.bytes + 1) all → AnswersCnf limits input result → AnswersCnf limits all result
all-read limits input all (Ok f) is answer = sym (reads-within limits all) ∙ ap (reads limits) (sym is) ∙ answer
all-read limits input all (Err NoMemory) is answer = tt
all-read limits input all (Err (BadInput at kind)) is answer = sym (reads-within limits all) ∙ ap (reads limits) (sym is) ∙ answer
all-read limits input all (Err (TooLarge which at)) is answer = sym (reads-within limits all) ∙ ap (reads limits) (sym is) ∙ answer

pub finishes : (limits : Limits) (kept bytes : List ℕ) (refused : Bool) (r : ReaderState) (result : Result Held CnfRefusal) → (let s : ReaderState = record { limits = limits; bytes = kept; refused = refused } in s) ≡ r → bytes ≡ kept → AnswersCnf limits bytes result → Finishes r result
finishes limits kept bytes refused r result view is answer =
    let same_limits : limits ≡ r.limits = ap (λ (s : ReaderState). s.limits) view in
    let same_bytes : kept ≡ r.bytes = ap (λ (s : ReaderState). s.bytes) view in
    λ all fed. all-read r.limits bytes all result (is ∙ same_bytes ∙ fed) (subst (λ l. AnswersCnf l bytes result) same_limits answer)
