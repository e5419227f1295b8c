-- What is proved of the list of breaches, beside the call's contract (proofs/Laws, proofs/Rises and proofs/Longest).
use Rattle.std.specs.Prelude.{ℕ, suc, ◌<◌, ◌≤◌, true, ◌≡◌, ◌⊎◌, length, get_or}
use mathlib.Core.List.{List, [], ◌∷◌, Memᴰ}
use Rattle.report.specs.Lists.{member, ascends}
use Rattle.report.specs.Rules.{broken, breaches}
use Rattle.report.specs.Report.{in_range}
use Rattle.report.specs.declared.Inputs.{Inputs}
use Rattle.report.specs.declared.breaches.Pair.{Pair}

-- the device breaks the rule of the pair's group for its number
abbrev pub Breaks : Inputs → List ℕ → Pair → Type 0
Breaks i attributes p = broken i (λ n. member n attributes) p ≡ true

-- a pair stands in the report exactly when its rule is broken
unfoldable pub Exact : Type 0
Exact =
    (i : Inputs) (attributes : List ℕ) → in_range i ≡ true → (p : Pair)
    → (Memᴰ p (breaches i attributes) → Breaks i attributes p) × (Breaks i attributes p → Memᴰ p (breaches i attributes))

-- by group, then by number
abbrev pub Before : Pair → Pair → Type 0
Before p q = (p.group < q.group) ⊎ ((p.group ≡ q.group) × (p.number < q.number))

-- each pair stands before every later one: ascending, and none twice
unfoldable pub Ascending : List Pair → Type 0
Ascending [] = Unit {0}
Ascending (p ∷ ps) = ((q : Pair) → Memᴰ q ps → Before p q) × Ascending ps

unfoldable pub Ordered : Type 0
Ordered = (i : Inputs) (attributes : List ℕ) → Ascending (breaches i attributes)

-- the test behind refusal 17: each number of a list is below the next
unfoldable pub Rising : List ℕ → Type 0
Rising ns = (k : ℕ) → suc k < length ns → get_or ns k 0 < get_or ns (suc k) 0

unfoldable pub Strict : Type 0
Strict = (ns : List ℕ) → (ascends ns ≡ true → Rising ns) × (Rising ns → ascends ns ≡ true)

-- the report is empty exactly when no rule is broken
unfoldable pub Sound : Type 0
Sound =
    (i : Inputs) (attributes : List ℕ) → in_range i ≡ true
    → (breaches i attributes ≡ [] → (p : Pair) → Breaks i attributes p → ⊥) × (((p : Pair) → Breaks i attributes p → ⊥) → breaches i attributes ≡ [])

-- pairs of the longest report
abbrev pub longest : ℕ
longest = 48

-- no report is longer than that, and one device has that one
unfoldable pub Longest : Type 0
Longest =
    ((i : Inputs) (attributes : List ℕ) → in_range i ≡ true → length (breaches i attributes) ≤ longest)
    × ((i : Inputs) × (in_range i ≡ true) × (length (breaches i []) ≡ longest))
