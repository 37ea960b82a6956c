-- The techniques that letters choose, by what was seen of the letters.
use Rattle.std.proofs.Common.{◌≡◌, ℕ, Bool, true, false, List, Some, length, cond, refl}
use Rattle.std.specs.Prelude.{◌==◌, ◌&&◌, not, None}
use Rattle.std.specs.List.{list_all}
use Rattle.cp_logic.specs.declared.settings.Choice.{Choice}
use Rattle.cp_words.specs.Letters.{choice_of, has_letter, is_technique}

where_both : (empty all : Bool) (choice seen : Choice) → empty ≡ false → all ≡ true → seen ≡ choice
    → Some seen ≡ cond (not empty && all) (Some choice) None
where_both empty all choice seen some every is = rw (some, every, is) refl

pub chosen : (letters : List ℕ) (seen : Choice) → (length letters == 0) ≡ false → list_all is_technique letters ≡ true
    → seen ≡ record { t = has_letter 116 letters; s = has_letter 115 letters; x = has_letter 120 letters; b = has_letter 98 letters; e = has_letter 101 letters }
    → Some seen ≡ choice_of letters
chosen letters seen some every is = where_both (length letters == 0) (list_all is_technique letters) _ seen some every is
