-- The letters of `--only`, and the words of `--proof-form`.
use Rattle.std.specs.Prelude.{◌==◌, ◌&&◌, ℕ, Bool, not, List, Option, Some, None, codes, length, if◌then◌else◌}
use Rattle.std.specs.List.{list_all, list_any}
use Rattle.std.specs.Str.{bytes_eq}
use Rattle.cp_logic.specs.declared.settings.Choice.{Choice}
use Rattle.cp_logic.specs.declared.settings.Form.{Form}
use Rattle.cp_logic.specs.declared.settings.Form.TheVariants.{Text, Binary}

abbrev pub has_letter : ℕ → List ℕ → Bool
has_letter letter letters = list_any (λ x. x == letter) letters

-- the letter is one of t (116), s (115), x (120), b (98) and e (101)
abbrev pub is_technique : ℕ → Bool
is_technique letter = has_letter letter (codes "tsxbe")

-- the techniques whose letters stand there, where there is a letter and each is that of a technique
abbrev pub choice_of : List ℕ → Option Choice
choice_of letters =
    if not (length letters == 0) && list_all is_technique letters then Some (record {
      t = has_letter 116 letters;
      s = has_letter 115 letters;
      x = has_letter 120 letters;
      b = has_letter 98 letters;
      e = has_letter 101 letters;
    }) else None

abbrev pub form_of : List ℕ → Option Form
form_of word =
    if bytes_eq word (codes "text") then Some Text
    else (if bytes_eq word (codes "binary") then Some Binary else None)
