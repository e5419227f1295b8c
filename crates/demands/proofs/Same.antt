-- The slots of a device and the history speak of the same zones: kept by a whole record stored in one slot.
use mathlib.Core.Path.{◌≡◌, refl, sym, ap, ◌∙◌, subst}
use mathlib.Core.Logic.{◌≢◌, ◌⊎◌, inl, inr, ⊎_elim}
use mathlib.Core.Bool.{Bool, true, false, cond, ◌&&◌}
use mathlib.Core.List.Memᴰ
use mathlib.Core.List.{List, ◌∷◌, Memᴰ}
use Prim.Native.Nat.{ℕ, zero, suc, ◌≤◌, ◌<◌}
use native.Mathlib.Omega.{arith}
use native.Mathlib.Decide.{ℕ_discrete}
use lib.Dec.{ltb, eqb}
use lib.ListN.{length, get_or, set, length-set}
use lib.Seq.{get_or-set_same, get_or-set_other}
use borrow.Author.Tests.{ltb-true, ltb-false, eq-eqb, ne_eqb}
use Rattle.device_store.specs.declared.Zone.{Zone}
use Rattle.device_store.specs.declared.Settings.{Settings}
use Rattle.device_store.specs.Sizes.{slots}
use Rattle.device_store.specs.Zones.{id_of, free_zone, is_joined, slot_of, joined, zone_of}
use Rattle.demands.specs.History.{Log, joined_by, record_by, zones_to, zones_by}
use Rattle.device_store.proofs.Slots.{slot_id}
use Rattle.demands.proofs.Lists.{never, first-least, get_d_mem, mem-get_d}
use Rattle.demands.proofs.Claims.{Within, OneId}

-- the record in slot i
abbrev pub at : List Zone → ℕ → Zone
at zs i = get_or zs i free_zone

-- "id 1 to 255": no precedence has a larger one
pub id_high : (x : Zone) → id_of x ≤ 255
unfolding id_of
id_high x = omega arith

-- a slot's record, where a zone has it, is the history's record of that zone
pub record There (s : Settings) (h : Log) (x : Zone) : Type 0 where
  pub told : joined_by h (id_of x) ≡ true
  pub whole : x ≡ record_by s h (id_of x)

-- the slots and the history have the same zones, each zone in one slot
pub record Same (s : Settings) (zs : List Zone) (h : Log) : Type 0 where
  pub size : length zs ≡ slots
  pub there : (i : ℕ) → i < slots → 1 ≤ id_of (at zs i) → There s h (at zs i)
  pub back : (z : ℕ) → joined_by h z ≡ true → (1 ≤ z) × (i : ℕ) × (i < slots) × (id_of (at zs i) ≡ z)
  pub one : (i j : ℕ) → i < slots → j < slots → 1 ≤ id_of (at zs i) → id_of (at zs i) ≡ id_of (at zs j) → i ≡ j

-- WHAT THE DEVICE FINDS
pub record Found (s : Settings) (zs : List Zone) (h : Log) (z : ℕ) : Type 0 where
  pub low : 1 ≤ z
  pub place : slot_of zs z < slots
  pub mine : id_of (at zs (slot_of zs z)) ≡ z
  pub whole : zone_of zs z ≡ record_by s h z

module _ (s : Settings) (zs : List Zone) (h : Log) (k : Same s zs h) where
  pub slot_mine : (z : ℕ) → slot_of zs z < slots → id_of (at zs (slot_of zs z)) ≡ z
  slot_mine z p = slot_id zs z (omega (arith, k.size))

  slot_least : (z i : ℕ) → i < slots → id_of (at zs i) ≡ z → slot_of zs z ≤ i
  unfolding slot_of
  slot_least z i p e = first-least (λ x. eqb (id_of x) z) zs i free_zone (omega (arith, k.size)) (eq-eqb _ z e)

  pub found : (z : ℕ) → joined_by h z ≡ true → Found s zs h z
  unfolding zone_of
  found z e =
      let b = k.back z e in
      let p : slot_of zs z < slots = omega (arith, slot_least z b.1 b.2 b.3, b.2) in
      let m = slot_mine z p in
      let w = (k.there (slot_of zs z) p (omega (arith, b.0))).whole in
      record { low = b.0; place = p; mine = m; whole = subst (λ (i : ℕ). at zs (slot_of zs z) ≡ record_by s h i) m w }

  pub joined_same : (z : ℕ) → joined zs z ≡ joined_by h z
  unfolding joined
  joined_same z = go (joined_by h z) refl (ltb 0 z) refl (ltb (slot_of zs z) slots) refl
    where
      go : (b : Bool) → joined_by h z ≡ b → (p : Bool) → ltb 0 z ≡ p → (q : Bool) → ltb (slot_of zs z) slots ≡ q → (p && q) ≡ b
      go true e true p true q = refl
      go true e false p q r = let f = found z e in absurd (omega (arith, ltb-false 0 z p))
      go true e true p false q = let f = found z e in absurd (omega (arith, ltb-false (slot_of zs z) slots q))
      go false e false p q r = refl
      go false e true p false q = refl
      go false e true p true q =
          let i = ltb-true (slot_of zs z) slots q in
          let m = slot_mine z i in
          let t = (k.there (slot_of zs z) i (omega (arith, ltb-true 0 z p))).told in
          never (sym e ∙ subst (λ (y : ℕ). joined_by h y ≡ true) m t)

-- A WHOLE RECORD STORED IN ONE SLOT
-- zone z, whose slot i is or will be, with the log before and after
pub record Moves (s : Settings) (zs : List Zone) (h h' : Log) (z i : ℕ) (x : Zone) : Type 0 where
  pub low : 1 ≤ z
  pub high : z ≤ 255
  pub place : i < slots
  pub mine : (id_of (at zs i) ≡ 0) ⊎ (id_of (at zs i) ≡ z)
  pub alone : (j : ℕ) → j < slots → id_of (at zs j) ≡ z → j ≡ i
  pub others : (y : ℕ) → y ≢ z → (joined_by h' y ≡ joined_by h y) × (record_by s h' y ≡ record_by s h y)
  pub new : ((id_of x ≡ 0) × (joined_by h' z ≡ false)) ⊎ ((joined_by h' z ≡ true) × (x ≡ record_by s h' z))

pub record_id : (s : Settings) (h : Log) (z : ℕ) → z ≤ 255 → id_of (record_by s h z) ≡ z
unfolding record_by id_of
record_id s h z p = omega arith

module _ (s : Settings) (zs : List Zone) (h h' : Log) (z i : ℕ) (x : Zone) (k : Same s zs h) (m : Moves s zs h h' z i x) where
  at_set : at (set zs i x) i ≡ x
  at_set = get_or-set_same zs i x free_zone (omega (arith, k.size, m.place))

  at_other : (j : ℕ) → j ≢ i → at (set zs i x) j ≡ at zs j
  at_other j n = get_or-set_other zs i j x free_zone n

  -- the new record is zone z's, where it is any zone's
  new_id : 1 ≤ id_of x → id_of x ≡ z
  new_id p = ⊎_elim (λ q. absurd (omega (arith, q.0))) (λ q. ap id_of q.1 ∙ record_id s h' z m.high) m.new

  new_there : 1 ≤ id_of x → There s h' x
  new_there p =
      let e = new_id p in
      ⊎_elim (λ q. absurd (omega (arith, q.0)))
      (λ q. record { told = subst (λ (y : ℕ). joined_by h' y ≡ true) (sym e) q.0; whole = subst (λ (y : ℕ). x ≡ record_by s h' y) (sym e) q.1 })
      m.new

  old_there : (y : Zone) → id_of y ≢ z → There s h y → There s h' y
  old_there y n t = let o = m.others (id_of y) n in record { told = o.0 ∙ t.told; whole = t.whole ∙ sym o.1 }

  set_there : (j : ℕ) → j < slots → 1 ≤ id_of (at (set zs i x) j) → There s h' (at (set zs i x) j)
  set_there j p = go (ℕ_discrete j i)
    where
      go : Dec (j ≡ i) → 1 ≤ id_of (at (set zs i x) j) → There s h' (at (set zs i x) j)
      go (yes e) = rw (e, at_set) new_there
      go (no n) = rw (at_other j n) (λ q. old_there (at zs j) (λ e. n (m.alone j p e)) (k.there j p q))

  set_back : (y : ℕ) → joined_by h' y ≡ true → (1 ≤ y) × (j : ℕ) × (j < slots) × (id_of (at (set zs i x) j) ≡ y)
  set_back y e = go (ℕ_discrete y z)
    where
      here : ((id_of x ≡ 0) × (joined_by h' z ≡ false)) ⊎ ((joined_by h' z ≡ true) × (x ≡ record_by s h' z)) → joined_by h' z ≡ true → id_of (at (set zs i x) i) ≡ z
      here (inl q) e = never (sym q.1 ∙ e)
      here (inr q) e = ap id_of (at_set ∙ q.1) ∙ record_id s h' z m.high

      go : Dec (y ≡ z) → (1 ≤ y) × (j : ℕ) × (j < slots) × (id_of (at (set zs i x) j) ≡ y)
      go (yes q) = (omega (arith, m.low), i, m.place, here m.new (subst (λ (w : ℕ). joined_by h' w ≡ true) q e) ∙ sym q)
      go (no n) =
          let b = k.back y (sym (m.others y n).0 ∙ e) in
          let apart : b.1 ≢ i = λ q. let f = subst (λ (w : ℕ). id_of (at zs w) ≡ y) q b.3 in ⊎_elim (λ o. absurd (omega (arith, b.0))) (λ o. n (sym f ∙ o)) m.mine in
          (b.0, b.1, b.2, ap id_of (at_other b.1 apart) ∙ b.3)

  set-one : (a b : ℕ) → a < slots → b < slots → 1 ≤ id_of (at (set zs i x) a) → id_of (at (set zs i x) a) ≡ id_of (at (set zs i x) b) → a ≡ b
  set-one a b p q = go (ℕ_discrete a i) (ℕ_discrete b i)
    where
      go : Dec (a ≡ i) → Dec (b ≡ i) → 1 ≤ id_of (at (set zs i x) a) → id_of (at (set zs i x) a) ≡ id_of (at (set zs i x) b) → a ≡ b
      go (yes e) (yes f) = λ l g. e ∙ sym f
      go (no e) (no f) = rw (at_other a e, at_other b f) (k.one a b p q)
      go (yes e) (no f) = rw (e, at_set, at_other b f) (λ l g. absurd (f (m.alone b q (sym g ∙ new_id l))))
      go (no e) (yes f) = rw (f, at_set, at_other a e) (λ l g. absurd (e (m.alone a p (g ∙ new_id (omega arith)))))

  pub same_set : Same s (set zs i x) h'
  same_set = record { size = length-set zs i x ∙ k.size; there = set_there; back = set_back; one = set-one }

-- a log that says the same of every zone
pub same_log : (s : Settings) (zs : List Zone) (h h' : Log) → ((y : ℕ) → (joined_by h' y ≡ joined_by h y) × (record_by s h' y ≡ record_by s h y)) → Same s zs h → Same s zs h'
same_log s zs h h' o k =
    record {
      size = k.size;
      there = λ i p q. let t = k.there i p q in let w = o (id_of (at zs i)) in record { told = w.0 ∙ t.told; whole = t.whole ∙ sym w.1 };
      back = λ z e. k.back z (sym (o z).0 ∙ e);
      one = k.one;
    }

-- THE HISTORY'S LIST OF ZONES
pub record Listed (s : Settings) (h : Log) (n : ℕ) (x : Zone) : Type 0 where
  pub low : 1 ≤ id_of x
  pub high : id_of x ≤ n
  pub told : joined_by h (id_of x) ≡ true
  pub whole : x ≡ record_by s h (id_of x)

pub mem-listed : (s : Settings) (h : Log) (n : ℕ) → n ≤ 255 → (x : Zone) → Memᴰ x (zones_to s h n) → Listed s h n x
unfolding zones_to
mem-listed s h zero b x m = absurd (Memᴰ.not-nil m)
mem-listed s h (suc n) b x m = go (joined_by h (suc n)) refl m (mem-listed s h n (omega arith) x)
  where
    wider : Listed s h n x → Listed s h (suc n) x
    wider l = record { low = l.low; high = omega (arith, l.high); told = l.told; whole = l.whole }

    here : joined_by h (suc n) ≡ true → x ≡ record_by s h (suc n) → Listed s h (suc n) x
    here j e =
        let i : id_of x ≡ suc n = ap id_of e ∙ record_id s h (suc n) b in
        record { low = omega arith; high = omega arith; told = subst (λ (y : ℕ). joined_by h y ≡ true) (sym i) j; whole = subst (λ (y : ℕ). x ≡ record_by s h y) (sym i) e }

    go : (b : Bool) → joined_by h (suc n) ≡ b → Memᴰ x (cond b (record_by s h (suc n) ∷ zones_to s h n) (zones_to s h n)) → (Memᴰ x (zones_to s h n) → Listed s h n x) → Listed s h (suc n) x
    go true j m ih = ⊎_elim (here j) (λ r. wider (ih r)) (Memᴰ.cases_cons m)
    go false j m ih = wider (ih m)

listed-mem : (s : Settings) (h : Log) (n z : ℕ) → joined_by h z ≡ true → 1 ≤ z → z ≤ n → Memᴰ (record_by s h z) (zones_to s h n)
unfolding zones_to
listed-mem s h zero z e a b = absurd (omega arith)
listed-mem s h (suc n) z e a b = go (joined_by h (suc n)) refl (ℕ_discrete z (suc n)) (listed-mem s h n z e a)
  where
    go : (j : Bool) → joined_by h (suc n) ≡ j → Dec (z ≡ suc n) → (z ≤ n → Memᴰ (record_by s h z) (zones_to s h n))
        → Memᴰ (record_by s h z) (cond j (record_by s h (suc n) ∷ zones_to s h n) (zones_to s h n))
    go true j (yes q) ih = Memᴰ.head (ap (record_by s h) q)
    go true j (no q) ih = Memᴰ.tail (ih (omega arith))
    go false j (yes q) ih = never (sym j ∙ subst (λ (y : ℕ). joined_by h y ≡ true) q e)
    go false j (no q) ih = ih (omega arith)

pub is_joined-low : (x : Zone) → is_joined x ≡ true → 1 ≤ id_of x
unfolding is_joined
is_joined-low x e = go (id_of x) e
  where
    go : (n : ℕ) → mathlib.Core.Bool.not (eqb n 0) ≡ true → 1 ≤ n
    go zero e = never e
    go (suc n) e = omega arith

low-is_joined : (x : Zone) → 1 ≤ id_of x → is_joined x ≡ true
unfolding is_joined
low-is_joined x p = rw (ne_eqb (id_of x) 0 (λ e. omega arith))

pub listed-joined : (s : Settings) (h : Log) (n : ℕ) → n ≤ 255 → (x : Zone) → Memᴰ x (zones_to s h n) → is_joined x ≡ true
listed-joined s h n b x m = low-is_joined x (mem-listed s h n b x m).low

-- the slots' zones and the history's are the same
module _ (s : Settings) (zs : List Zone) (h : Log) (k : Same s zs h) where
  pub slots-within : Within zs (zones_by s h)
  slots-within = record { has = λ x j m. let r = mem-get_d zs x free_zone m in go x r.2 (k.there r.0 (omega (arith, r.1, k.size))) (is_joined-low x j) }
    where
      go : (x : Zone) {y : Zone} → y ≡ x → (1 ≤ id_of y → There s h y) → 1 ≤ id_of x → Memᴰ x (zones_by s h)
      go x e t l =
          let q = subst (λ (v : Zone). There s h v) e (t (omega (arith, ap id_of e))) in
          Memᴰ.cast q.whole (listed-mem s h 255 (id_of x) q.told l (id_high x))

  pub history-within : Within (zones_by s h) zs
  history-within = record { has = λ x j m. let l = mem-listed s h 255 (omega arith) x m in let b = k.back (id_of x) l.told in go x l b.1 b.2 b.3 }
    where
      go : (x : Zone) → Listed s h 255 x → (i : ℕ) → i < slots → id_of (at zs i) ≡ id_of x → Memᴰ x zs
      go x l i p e =
          let t = k.there i p (omega (arith, l.low)) in
          Memᴰ.cast (l.whole ∙ ap (record_by s h) (sym e) ∙ sym t.whole) (get_d_mem zs i free_zone (omega (arith, k.size)))

  pub slots-one : OneId zs
  unfolding OneId
  slots-one x y m n j e =
      let a = mem-get_d zs x free_zone m in
      let b = mem-get_d zs y free_zone n in
      let ai : id_of (at zs a.0) ≡ id_of x = ap id_of a.2 in
      let bi : id_of (at zs b.0) ≡ id_of y = ap id_of b.2 in
      let i = k.one a.0 b.0 (omega (arith, a.1, k.size)) (omega (arith, b.1, k.size)) (omega (arith, is_joined-low x j)) (ai ∙ e ∙ sym bi) in
      sym a.2 ∙ ap (at zs) i ∙ b.2
