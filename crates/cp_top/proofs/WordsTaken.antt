-- Words that are refused, and words for which memory is wanting.
use Rattle.std.proofs.Common.{◌≡◌, ◌≢◌, ℕ, List, Result, Ok, Err}
use Rattle.cp_io.specs.Port.{Ports}
use Rattle.cp_words.specs.declared.words.UsageKind.{UsageKind}
use Rattle.cp_words.specs.declared.words.UsageKind.TheVariants as kind
use Rattle.cp_words.specs.declared.words.WordsRefusal.{WordsRefusal}
use Rattle.cp_words.specs.declared.words.WordsRefusal.TheVariants as refusal
use Rattle.cp_words.specs.Words.{extend_options, generate_options}
use Rattle.cp_words.specs.Answers.{Answers, extend_seen, generate_seen}
use Rattle.cp_top.specs.declared.outcome.Outcome.TheVariants.{Refused}
use Rattle.cp_roles.specs.declared.refusal.Refusal.{Refusal}
use Rattle.cp_roles.specs.Refused.{WordsRefused}
use Rattle.cp_top.specs.Extension.{HasExtendCause}
use Rattle.cp_top.specs.Generation.{HasGenerateCause}

pub not-command : {V : Type 0} (given : Result V UsageKind) (o : V) → given ≡ Ok o → given ≢ Err kind.Command
not-command given o taken e = cc

module _ (words : List (List ℕ)) (old new : Ports) where
  pub extend-refused : (w : WordsRefusal) (r : Refusal) → Answers extend_seen (extend_options words) (Err w) → WordsRefused w r → HasExtendCause words old new (Refused r)
  extend-refused (refusal.Usage kind) r a is = rw is a
  extend-refused refusal.NoMemory r a is = rw is a

  pub generate-refused : (w : WordsRefusal) (r : Refusal) → Answers generate_seen (generate_options words) (Err w) → WordsRefused w r → HasGenerateCause words old new (Refused r)
  generate-refused (refusal.Usage kind) r a is = rw is a
  generate-refused refusal.NoMemory r a is = rw is a
