-- Worked examples of logs.
use Rattle.std.proofs.Common.{◌≡◌, ℕ, List, [], ◌∷◌, map, refl}
use Rattle.std.specs.Prelude.{codes}
use Rattle.std.specs.Fmt.{digits}
use Rattle.cp_logic.specs.declared.named.Named.{Named}
use Rattle.cp_logic.specs.declared.settings.Form.TheVariants.{Text, Binary}
use Rattle.cp_logic.specs.Entries.{Entry, Subsume, Strengthen, Block, Eliminate, Look}
use Rattle.cp_logic.specs.Journals.{Post}
use Rattle.cp_drat.specs.Log.{log_of}
use Rattle.cp_drat.specs.Text.{groups, lemma_text, deletion_text, literal_text, end_text, log_text}

abbrev pub named : ℕ → List ℕ → Named
named number clause = record { number = number; clause = clause }

abbrev pub post : Entry → Post
post entry = record { worker = 0; round = 0; entry = entry }

-- nothing follows the empty clause
pub strengthened : log_text Text (log_of (post (Strengthen (named 1 (2 ∷ [])) (named 2 (3 ∷ [])) 3 (named 3 [])) ∷ post (Block (named 1 (2 ∷ [])) 2) ∷ [])) ≡ codes "0\n"
unfolding digits lemma_text deletion_text literal_text end_text
strengthened = refl

pub subsumed : log_text Text (log_of (post (Subsume (named 1 (2 ∷ 4 ∷ [])) (named 2 (2 ∷ 4 ∷ []))) ∷ post (Look 1) ∷ [])) ≡ codes "d 1 2 0\n"
unfolding digits lemma_text deletion_text literal_text end_text
subsumed = refl

-- the resolvent stands before the clauses of its variable are deleted
pub eliminated :
    log_text Text (log_of (post (Eliminate 1 (named 1 (2 ∷ 4 ∷ []) ∷ []) (named 2 (3 ∷ 6 ∷ []) ∷ []) (named 3 (4 ∷ 6 ∷ []) ∷ [])) ∷ post (Eliminate 2 (named 3 (4 ∷ 6 ∷ []) ∷ []) [] []) ∷ []))
    ≡ codes "2 3 0\nd 1 2 0\nd -1 3 0\nd 2 3 0\n"
unfolding digits lemma_text deletion_text literal_text end_text
eliminated = refl

-- 1, -1, 64, -8192 and 2000000 in binary
pub coded : map (literal_text Binary) (2 ∷ 3 ∷ 128 ∷ 16385 ∷ 4000000 ∷ []) ≡ (2 ∷ []) ∷ (3 ∷ []) ∷ (128 ∷ 1 ∷ []) ∷ (129 ∷ 128 ∷ 1 ∷ []) ∷ (128 ∷ 146 ∷ 244 ∷ 1 ∷ []) ∷ []
unfolding groups literal_text
coded = refl

pub strengthened-binary : log_text Binary (log_of (post (Strengthen (named 1 (2 ∷ [])) (named 2 (3 ∷ [])) 3 (named 3 [])) ∷ [])) ≡ 97 ∷ 0 ∷ []
unfolding lemma_text end_text
strengthened-binary = refl

pub eliminated-binary :
    log_text Binary (log_of (post (Eliminate 1 (named 1 (2 ∷ 4 ∷ []) ∷ []) (named 2 (3 ∷ 6 ∷ []) ∷ []) (named 3 (4 ∷ 6 ∷ []) ∷ [])) ∷ post (Eliminate 2 (named 3 (4 ∷ 6 ∷ []) ∷ []) [] []) ∷ []))
    ≡ 97 ∷ 4 ∷ 6 ∷ 0 ∷ 100 ∷ 2 ∷ 4 ∷ 0 ∷ 100 ∷ 3 ∷ 6 ∷ 0 ∷ 100 ∷ 4 ∷ 6 ∷ 0 ∷ []
unfolding groups lemma_text deletion_text literal_text end_text
eliminated-binary = refl
