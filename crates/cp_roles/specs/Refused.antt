-- The refusal of words, as that of a run.
use Rattle.std.specs.Prelude.{◌≡◌}
use Rattle.cp_words.specs.declared.words.WordsRefusal.{WordsRefusal}
use Rattle.cp_words.specs.declared.words.WordsRefusal.TheVariants as words
use Rattle.cp_roles.specs.declared.refusal.Refusal.{Refusal}
use Rattle.cp_roles.specs.declared.refusal.Refusal.TheVariants.{Usage, NoMemory}

abbrev pub WordsRefused : WordsRefusal → Refusal → Type 0
WordsRefused (words.Usage kind) refusal = refusal ≡ Usage kind
WordsRefused words.NoMemory refusal = refusal ≡ NoMemory
