-- Keys of corners near the start: a step moves them as it moves the corner, no two corners have one, and the lowest of the leftmost corners has the least.
-- Assumes nothing.
use mathlib.Core.List.Memᴰ
use mathlib.Core.List.{List, [], ◌∷◌, Memᴰ}
use mathlib.Core.Logic.{inl, inr, ⊎_elim}
use mathlib.Core.Path.{◌≡◌, ap, sym, ◌∙◌, subst}
use Prim.Native.Nat.{ℕ, zero, suc, ◌+◌, ◌-◌, ◌*◌, ◌<◌, ◌≤◌}
use native.Mathlib.Decide.{dec_lt}
use native.Mathlib.Omega.{arith}
use lib.IntN.{ℤ, pos, negsuc, suc_ℤ, pred_ℤ, suc-pred, ◌-ℤ◌}
use lib.ListN.{length}
use lib.Signed.{◌≤ℤ◌, ◌<ℤ◌}
use Rattle.answer.specs.Limits.{most_steps}
use Rattle.int_laws.specs.Signed.{up, dn}
use Rattle.int_laws.proofs.LinearLaws.{nat_eq, nat_lt, nat_le, bal-}
use Rattle.grid.specs.declared.Corner.{Corner}
use Rattle.grid.specs.Grid.{stepped, corners_from, end_from, Begins}
use Rattle.grid.proofs.StepLaws.{end_from-mem}
use Rattle.grid.proofs.CornerLaws.{corner_eq}
use Rattle.outline_laws.specs.Keys.{offset, key_of, key_after, column_rows}

-- z lies at most n from a, on either side
pub record Near (n : ℕ) (a z : ℤ) : Type 0 where
  pub after : up (z -ℤ a) ≤ n
  pub before : dn (z -ℤ a) ≤ n

up_suc : (z : ℤ) → up (suc_ℤ z) + dn z ≡ up z + dn (suc_ℤ z) + 1
up_suc (pos n) = omega arith
up_suc (negsuc zero) = omega arith
up_suc (negsuc (suc n)) = omega arith

suc_sub : (z a : ℤ) → suc_ℤ z -ℤ a ≡ suc_ℤ (z -ℤ a)
suc_sub z a = nat_eq (suc_ℤ z -ℤ a) (suc_ℤ (z -ℤ a)) (omega (arith, bal- (suc_ℤ z) a, bal- z a, up_suc z, up_suc (z -ℤ a)))

pred_sub : (z a : ℤ) → suc_ℤ (pred_ℤ z -ℤ a) ≡ z -ℤ a
pred_sub z a = sym (suc_sub (pred_ℤ z) a) ∙ ap (λ (x : ℤ). x -ℤ a) (suc-pred z)

-- one more
abbrev More : ℕ → ℤ → ℤ → Type 0
More n w v = (up w ≤ n) × (dn w ≤ n) → (up v ≤ suc n) × (dn v ≤ suc n)

more_suc : (n : ℕ) (w : ℤ) → More n w (suc_ℤ w) × More n (suc_ℤ w) w
more_suc n (pos m) = ((λ h. (omega (arith, h.0), omega arith)), (λ h. (omega (arith, h.0), omega arith)))
more_suc n (negsuc zero) = ((λ h. (omega arith, omega arith)), (λ h. (omega arith, omega arith)))
more_suc n (negsuc (suc m)) = ((λ h. (omega arith, omega (arith, h.1))), (λ h. (omega arith, omega (arith, h.1))))

near-east : (n : ℕ) (a z : ℤ) → Near n a z → Near (suc n) a (suc_ℤ z)
near-east n a z h = let k = subst (More n (z -ℤ a)) (sym (suc_sub z a)) (more_suc n (z -ℤ a)).0 (h.after, h.before) in record { after = k.0; before = k.1 }

near_west : (n : ℕ) (a z : ℤ) → Near n a z → Near (suc n) a (pred_ℤ z)
near_west n a z h = let k = subst (λ (w : ℤ). More n w (pred_ℤ z -ℤ a)) (pred_sub z a) (more_suc n (pred_ℤ z -ℤ a)).1 (h.after, h.before) in record { after = k.0; before = k.1 }

near-more : (n : ℕ) (a z : ℤ) → Near n a z → Near (suc n) a z
near-more n a z h = record { after = omega (arith, h.after); before = omega (arith, h.before) }

offset-east : (n : ℕ) (a z : ℤ) → n ≤ most_steps → Near n a z → offset a (suc_ℤ z) ≡ offset a z + 1
offset-east n a z l h = rw (suc_sub z a) (go (z -ℤ a) h.before)
  where
    go : (w : ℤ) → dn w ≤ n → (most_steps + up (suc_ℤ w)) - dn (suc_ℤ w) ≡ (most_steps + up w) - dn w + 1
    go (pos m) k = omega arith
    go (negsuc zero) k = omega arith
    go (negsuc (suc m)) k = omega arith

offset_west : (n : ℕ) (a z : ℤ) → n < most_steps → Near n a z → offset a (pred_ℤ z) ≡ offset a z - 1
offset_west n a z l h =
    let k : offset a (suc_ℤ (pred_ℤ z)) ≡ offset a (pred_ℤ z) + 1 = offset-east (suc n) a (pred_ℤ z) (omega arith) (near_west n a z h) in
    omega (arith, subst (λ (y : ℤ). offset a y ≡ offset a (pred_ℤ z) + 1) (suc-pred z) k)

-- near enough, the offset shows the place, and more of one is more of the other
offset_exact : (a z : ℤ) → Near most_steps a z → (offset a z + dn (z -ℤ a) ≡ most_steps + up (z -ℤ a)) × (offset a z < column_rows)
offset_exact a z h = (omega (arith, h.before), omega (arith, h.after))

offset_inj : (a y z : ℤ) → Near most_steps a y → Near most_steps a z → offset a y ≡ offset a z → y ≡ z
offset_inj a y z h k e =
    nat_eq y z (omega (arith, (offset_exact a y h).0, (offset_exact a z k).0, bal- y a, bal- z a))

offset_lt : (a y z : ℤ) → Near most_steps a y → Near most_steps a z → offset a y < offset a z → y <ℤ z
offset_lt a y z h k e = nat_lt y z (omega (arith, (offset_exact a y h).0, (offset_exact a z k).0, bal- y a, bal- z a))

offset_le : (a y z : ℤ) → Near most_steps a y → Near most_steps a z → offset a y ≤ offset a z → y ≤ℤ z
offset_le a y z h k e = nat_le y z (omega (arith, (offset_exact a y h).0, (offset_exact a z k).0, bal- y a, bal- z a))

-- both coordinates
pub record Close (n : ℕ) (c p : Corner) : Type 0 where
  pub x : Near n c.0 p.0
  pub y : Near n c.1 p.1

near_self : (a : ℤ) → Near 0 a a
near_self a =
    let e : a -ℤ a ≡ pos 0 = nat_eq (a -ℤ a) (pos 0) (omega (arith, bal- a a)) in
    record { after = omega (arith, ap up e); before = omega (arith, ap dn e) }

close_self : (c : Corner) → Close 0 c c
close_self c = record { x = near_self c.0; y = near_self c.1 }

close_step : (n d : ℕ) (c p : Corner) → Close n c p → Close (suc n) c (stepped d p)
close_step n zero c p h = record { x = near-east n c.0 p.0 h.x; y = near-more n c.1 p.1 h.y }
close_step n (suc zero) c p h = record { x = near-more n c.0 p.0 h.x; y = near-east n c.1 p.1 h.y }
close_step n (suc (suc zero)) c p h = record { x = near_west n c.0 p.0 h.x; y = near-more n c.1 p.1 h.y }
close_step n (suc (suc (suc d))) c p h = record { x = near-more n c.0 p.0 h.x; y = near_west n c.1 p.1 h.y }

pub key_start : (c : Corner) → key_of c c ≡ 536903680
key_start c =
    let a = near_self c.0 in
    let b = near_self c.1 in
    omega (arith, a.after, a.before, b.after, b.before)

pub key_step : (n d : ℕ) (c p : Corner) → n < most_steps → Close n c p → key_of c (stepped d p) ≡ key_after (key_of c p) d
key_step n zero c p l h = omega (arith, offset-east n c.0 p.0 (omega arith) h.x)
key_step n (suc zero) c p l h = omega (arith, offset-east n c.1 p.1 (omega arith) h.y)
key_step n (suc (suc zero)) c p l h = omega (arith, offset_west n c.0 p.0 l h.x, h.x.before)
key_step n (suc (suc (suc d))) c p l h = omega (arith, offset_west n c.1 p.1 l h.y, h.y.before)

pub key_inj : (c p q : Corner) → Close most_steps c p → Close most_steps c q → key_of c p ≡ key_of c q → p ≡ q
key_inj c p q h k e =
    let a = (offset_exact c.1 p.1 h.y).1 in
    let b = (offset_exact c.1 q.1 k.y).1 in
    corner_eq p q (offset_inj c.0 p.0 q.0 h.x k.x (omega (arith, a, b, e))) (offset_inj c.1 p.1 q.1 h.y k.y (omega (arith, a, b, e)))

-- the least key is that of the lowest of the leftmost
pub key_begins : (c p q : Corner) → Close most_steps c p → Close most_steps c q → key_of c p ≤ key_of c q → Begins p q
key_begins c p q h k e =
    let a = (offset_exact c.1 p.1 h.y).1 in
    let b = (offset_exact c.1 q.1 k.y).1 in
    elim (dec_lt (offset c.0 p.0) (offset c.0 q.0)) [
      | yes l ↦ inl (offset_lt c.0 p.0 q.0 h.x k.x l)
      | no l ↦ inr (offset_inj c.0 p.0 q.0 h.x k.x (omega (arith, a, b, e)), offset_le c.1 p.1 q.1 h.y k.y (omega (arith, a, b, e)))
    ]

pub key_small : (c p : Corner) → Close most_steps c p → key_of c p < column_rows * column_rows
key_small c p h = omega (arith, (offset_exact c.0 p.0 h.x).1, (offset_exact c.1 p.1 h.y).1)

close_more : (n m : ℕ) (c p : Corner) → n ≤ m → Close n c p → Close m c p
close_more n m c p l h = record { x = record { after = omega (arith, h.x.after); before = omega (arith, h.x.before) }; y = record { after = omega (arith, h.y.after); before = omega (arith, h.y.before) } }

-- the corners of a walk lie as near its start as it has steps
walk_close : (c a : Corner) (ds : List ℕ) (n : ℕ) (p : Corner) → Close n c a → Memᴰ p (corners_from a ds) → Close (n + length ds) c p
walk_close c a [] n p h m = close_more n (n + 0) c p (omega arith) (subst (Close n c) (sym (Memᴰ.eq_of_singleton m)) h)
walk_close c a (d ∷ ds) n p h m =
    ⊎_elim
    (λ e. close_more n (n + suc (length ds)) c p (omega arith) (subst (Close n c) (sym e) h))
    (λ t. subst (λ (k : ℕ). Close k c p) (omega arith) (walk_close c (stepped d a) ds (suc n) p (close_step n d c a h) t))
    (Memᴰ.cases_cons m)

pub corner_close : (c : Corner) (ds : List ℕ) (p : Corner) → length ds ≤ most_steps → Memᴰ p (corners_from c ds) → Close most_steps c p
corner_close c ds p l m = close_more (0 + length ds) most_steps c p (omega arith) (walk_close c c ds 0 p (close_self c) m)

-- one step from the farthest key there is space on every side
pub key_large : (n : ℕ) (c p : Corner) → n < most_steps → Close n c p → column_rows ≤ key_of c p
key_large n c p l h = omega (arith, h.x.before)

pub end_close : (c : Corner) (ds : List ℕ) → Close (0 + length ds) c (end_from c ds)
end_close c ds = walk_close c c ds 0 (end_from c ds) (close_self c) (end_from-mem c ds)
