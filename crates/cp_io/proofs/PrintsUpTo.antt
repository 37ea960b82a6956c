-- A text of which some is printed, and what is left of it.
use Rattle.std.proofs.Common.{◌≡◌, ℕ, List, [], ◌∷◌, ◌++◌, refl, sym, ◌∙◌, ap, subst, append_assoc}
use Rattle.std.specs.List.{flat_map}
use Rattle.std.proofs.lemmas.List.{append-nil}
use Rattle.cp_io.specs.declared.role.Role.{Role}
use Rattle.cp_io.specs.Port.{Ports}
use Rattle.cp_io.specs.Prints.{Buffered, Prints}
use Rattle.cp_io.proofs.Printing.{Prints-none, Prints-then}

-- some of the text is printed, and this is left
abbrev pub PrintsUpTo : Role → List ℕ → List ℕ → Buffered → Ports → Buffered → Ports → Type 0
PrintsUpTo role whole left p old q new = (done : List ℕ) × Prints role done p old q new × (done ++ left ≡ whole)

-- the next part of what is left is printed
pub Prints-step : {role : Role} {part : List ℕ} (whole left next : List ℕ) {p q r : Buffered} {old mid new : Ports}
    → left ≡ part ++ next → PrintsUpTo role whole left p old q mid → Prints role part q mid r new → PrintsUpTo role whole next p old r new
Prints-step {part = part} whole left next is m n = (m.0 ++ part, Prints-then m.1 n, append_assoc m.0 part next ∙ ap (λ t. m.0 ++ t) (sym is) ∙ m.2)

-- nothing is left
pub Prints-whole : {role : Role} (whole left : List ℕ) {p q : Buffered} {old new : Ports} → left ≡ [] → PrintsUpTo role whole left p old q new → Prints role whole p old q new
Prints-whole {role = role} whole left {p = p} {q = q} {old = old} {new = new} none m =
    subst (λ t. Prints role t p old q new) (sym (append-nil m.0) ∙ ap (λ t. m.0 ++ t) (sym none) ∙ m.2) m.1

-- the last part of what is left is printed
pub Prints-last : {role : Role} {part : List ℕ} (whole left : List ℕ) {p q r : Buffered} {old mid new : Ports}
    → left ≡ part → PrintsUpTo role whole left p old q mid → Prints role part q mid r new → Prints role whole p old r new
Prints-last {part = part} whole left is m n = Prints-whole whole [] refl (Prints-step whole left [] (is ∙ sym (append-nil part)) m n)

-- nothing is printed yet
pub Prints-start : (role : Role) (whole : List ℕ) (p : Buffered) (now : Ports) → PrintsUpTo role whole whole p now p now
Prints-start role whole p now = ([], Prints-none role p now, refl)

-- the text of the next member of a list is printed
pub Prints-piece : {X : Type 0} {role : Role} (f : X → List ℕ) (whole : List ℕ) (left next : List X) (x : X) {p q r : Buffered} {old mid new : Ports}
    → PrintsUpTo role whole (flat_map f left) p old q mid → left ≡ x ∷ next → Prints role (f x) q mid r new → PrintsUpTo role whole (flat_map f next) p old r new
Prints-piece f whole left next x m is n = Prints-step whole (flat_map f left) (flat_map f next) (ap (flat_map f) is) m n
