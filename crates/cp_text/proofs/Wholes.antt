-- What comes next in a text whose last word may be cut.
use Rattle.std.proofs.Common.{◌≡◌, ℕ, ◌+◌, Bool, true, false, ltb, List, [], ◌∷◌, length, refl, sym, ◌∙◌, ap, arith}
use Rattle.std.proofs.lemmas.Bool.{le-ltb}
use Rattle.cp_text.specs.declared.text.Item.{Item}
use Rattle.cp_text.specs.declared.text.Item.TheVariants as items
use Rattle.cp_text.specs.Text.{Word, Line, lines_from}
use Rattle.cp_text.specs.Items.{with_word, IsNextSeen}
use Rattle.cp_text.specs.Cut.{whole_words, seen_before, lines_seen}
use Rattle.cp_text.specs.Ahead.{IsWordAhead, IsLineAhead, IsNextWhole}
use Rattle.cp_text.proofs.WordFronts.{some_line_from}

pub cut_ahead : (cut : Bool) (place : ℕ) (text : List ℕ) (w : Word) (rest : List ℕ) → cut ≡ true → length rest ≡ 0 → lines_from place text ≡ with_word w (lines_from (w.at + length w.bytes) rest) → w.at + length w.bytes + length rest ≡ place + length text
    → IsLineAhead cut place text (place + length text) []
unfolding lines_from
cut_ahead false place text w rest is none lines reaches = absurd cc
cut_ahead true place text w (b ∷ rest) is none lines reaches = absurd (omega arith)
cut_ahead true place text w [] is none lines reaches =
    let long : ltb (w.at + length w.bytes) (place + length text) ≡ false = le-ltb (w.at + length w.bytes) (place + length text) (omega arith) in
    let reached : w.at + length w.bytes ≡ place + length text = omega arith in
    record { line = record { words = w ∷ []; end = w.at + length w.bytes }; is = lines; none = rw long refl; end = reached }

-- ---- what is seen

seen_line : (cut : Bool) (end : ℕ) (line : Line) (lines : List Line) → seen_before cut end (line ∷ lines) ≡ record { words = whole_words cut end line.words; end = line.end } ∷ seen_before cut end lines
seen_line true end line lines = refl
seen_line false end line lines = refl

seen_none : (cut : Bool) (end : ℕ) → seen_before cut end [] ≡ []
seen_none true end = refl
seen_none false end = refl

same_line : (ws vs : List Word) (e f : ℕ) (lines : List Line) → ws ≡ vs → e ≡ f → (let line : Line = record { words = ws; end = e } in line ∷ lines) ≡ record { words = vs; end = f } ∷ lines
same_line ws vs e f lines a b = rw (a, b) refl

seen_word : (cut : Bool) (place : ℕ) (text : List ℕ) (w : Word) (rest : List ℕ) → IsWordAhead cut place text w rest → lines_seen cut place text ≡ with_word w (lines_seen cut (w.at + length w.bytes) rest)
seen_word cut place text w rest ahead =
    let end = place + length text in
    let some = some_line_from (w.at + length w.bytes) rest in
    let line : Line = some.0 in
    ap (seen_before cut end) (ahead.lines ∙ ap (with_word w) some.2)
    ∙ seen_line cut end (record { words = w ∷ line.words; end = line.end }) some.1
    ∙ same_line (whole_words cut end (w ∷ line.words)) (w ∷ whole_words cut end line.words) line.end line.end (seen_before cut end some.1) (ahead.whole line.words) refl
    ∙ ap (with_word w) (sym (seen_line cut end line some.1) ∙ ap (seen_before cut end) (sym some.2) ∙ ap (λ n. seen_before cut n (lines_from (w.at + length w.bytes) rest)) (sym ahead.reaches))

seen_ahead : (cut : Bool) (place : ℕ) (text : List ℕ) (at : ℕ) (behind : List Line) → IsLineAhead cut place text at behind → lines_seen cut place text ≡ record { words = []; end = at } ∷ seen_before cut (place + length text) behind
seen_ahead cut place text at behind ahead =
    let end = place + length text in
    let line : Line = ahead.line in
    ap (seen_before cut end) ahead.is ∙ seen_line cut end line behind ∙ same_line (whole_words cut end line.words) [] line.end at (seen_before cut end behind) ahead.none ahead.end

pub seen_is : (cut : Bool) (place : ℕ) (text : List ℕ) (item : Item) → IsNextWhole cut place text item → IsNextSeen cut place text item
seen_is cut place text (items.Word at word rest) next = (seen_word cut place text (record { at = at; bytes = word.now }) rest.now next, next.some, next.later, next.reaches)
seen_is cut place text (items.LineEnd at rest) next =
    (seen_ahead cut place text at (lines_from (at + 1) rest.now) next.0 ∙ ap (λ n. let line : Line = record { words = []; end = at } in line ∷ seen_before cut n (lines_from (at + 1) rest.now)) (sym next.2), next.1, next.2)
seen_is cut place text (items.End at) next =
    (seen_ahead cut place text at [] next.0 ∙ ap (λ (ls : List Line). let line : Line = record { words = []; end = at } in line ∷ ls) (seen_none cut (place + length text)), next.1)
