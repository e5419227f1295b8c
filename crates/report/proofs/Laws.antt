-- The statements of specs/Statements: the report is exactly what is broken, in order, and empty exactly when nothing is.
use Prim.Native.Nat.{ℕ, zero, suc, ◌+◌, ◌*◌, ◌<◌, ◌/◌, ◌%◌}
use mathlib.Core.Bool.{Bool, true, false≢true}
use mathlib.Core.Path.{◌≡◌, refl, ap, ◌∙◌}
use mathlib.Core.List.Memᴰ
use mathlib.Core.List.{List, [], ◌∷◌, Memᴰ}
use native.Mathlib.Omega.{arith}
use lib.ListN.{length, get_or}
use Rattle.report_tables.specs.Features.{bits}
use Rattle.report_tables.specs.Attributes.{row_count, rows, no_row}
use Rattle.report.specs.Sizes.{bit_groups, attribute_group, bit_pairs, pair_count}
use Rattle.report.specs.Lists.{member}
use Rattle.report.specs.Rules.{bit_rules, broken, candidates, no_pair, breaches}
use Rattle.report.specs.Report.{in_range}
use Rattle.report.specs.Statements.{Exact, Ordered, Sound}
use Rattle.report.specs.declared.Inputs.{Inputs}
use Rattle.report.specs.declared.breaches.Pair.{Pair}
use Rattle.report.proofs.Tables.{pair_of, bit-pair, row-pair, length-candidates, length-rows}
use Rattle.report.proofs.Members.{stands, kept, keeps, keep-ascending, in_order_lem}
use Rattle.report.proofs.Bounds.{need-below, clash_below, supply_below, required-bit_below, invalid-below, attribute_row}

-- the pair at a place stands among the candidates
placed : (k : ℕ) (p : Pair) → k < pair_count → get_or candidates k no_pair ≡ p → Memᴰ p candidates
placed k p h e = rw e at (stands candidates no_pair k (rw length-candidates h))

bit-placed : (g n : ℕ) → g < bit_groups → n < bits → Memᴰ (pair_of (suc g) n) candidates
bit-placed g n hg hn =
    let group : (g * bits + n) / bits + 1 ≡ suc g = omega arith in
    let number : (g * bits + n) % bits ≡ n = omega arith in
    placed (g * bits + n) (pair_of (suc g) n) (omega arith) (rw (group, number) at (bit-pair (g * bits + n) (omega arith)))

-- only a candidate can be broken
judged : (i : Inputs) (listed : ℕ → Bool) → in_range i ≡ true → (g n : ℕ) → broken i listed (pair_of g n) ≡ true → Memᴰ (pair_of g n) candidates
unfolding broken bit_rules
judged i listed r zero n e = absurd (false≢true e)
judged i listed r (suc zero) n e = bit-placed 0 n (omega arith) (need-below i n r e)
judged i listed r (suc (suc zero)) n e = bit-placed 1 n (omega arith) (clash_below i n r e)
judged i listed r (suc (suc (suc zero))) n e = bit-placed 2 n (omega arith) (supply_below i n r e)
judged i listed r (suc (suc (suc (suc zero)))) n e = bit-placed 3 n (omega arith) (required-bit_below i n r e)
judged i listed r (suc (suc (suc (suc (suc zero))))) n e = bit-placed 4 n (omega arith) (invalid-below i n r e)
judged i listed r (suc (suc (suc (suc (suc (suc zero)))))) n e =
    let row : (k : ℕ) × (k < length rows) × ((get_or rows k no_row).0 ≡ n) = attribute_row i listed n e in
    let h : row.0 < row_count = rw length-rows at row.1 in
    placed (bit_pairs + row.0) (pair_of attribute_group n) (omega arith) (row-pair row.0 h ∙ ap (pair_of attribute_group) row.2)
judged i listed r (suc (suc (suc (suc (suc (suc (suc g))))))) n e = absurd (false≢true e)

pub exact : Exact
unfolding Exact breaches
exact i attributes r p = (
  (λ m. (kept (broken i (λ n. member n attributes)) p candidates m).0),
  λ e. keeps (broken i (λ n. member n attributes)) p candidates e (judged i _ r p.group p.number e),
)

pub ordered : Ordered
unfolding Ordered breaches candidates rows
ordered i attributes = keep-ascending _ candidates (in_order_lem candidates refl)

pub sound : Sound
unfolding Sound Exact
sound i attributes r =
    ((λ e p b. Memᴰ.not-nil (rw e at ((exact i attributes r p).1 b))), λ none. go (breaches i attributes) (λ p m. none p ((exact i attributes r p).0 m)))
  where
    go : (ps : List Pair) → ((p : Pair) → Memᴰ p ps → ⊥) → ps ≡ []
    go [] none = refl
    go (p ∷ ps) none = absurd (none p (Memᴰ.head refl))
