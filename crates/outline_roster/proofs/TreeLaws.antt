-- A way down ends at the node of its key or at a child that is not there; a node put there is found, and every other way ends where it did.
-- Assumes nothing.
use Rattle.std.specs.Prelude.{Err, Ok}
use mathlib.Core.Bool.{Bool, true, false}
use mathlib.Core.List.{List}
use mathlib.Core.Path.{◌≡◌, refl, ap, sym, ◌∙◌, subst}
use Prim.Native.Nat.{ℕ, zero, suc, ◌+◌, ◌*◌, ◌/◌, ◌%◌, ◌<◌, ◌≤◌}
use native.Mathlib.Omega.{arith}
use borrow.Author.Tests.{eqb-true, eqb-false}
use lib.Dec.{eqb}
use lib.ListN.{get_or}
use Rattle.outline_roster.specs.Tree.{seek_from, Tree}

-- one step of the way down: at the node, at a child that is not there, or on to a child
pub data Step (f : ℕ) (keys kids : List ℕ) (k i r : ℕ) : Type 0 where
  here : get_or keys i 0 ≡ k → seek_from (suc f) keys kids k i r ≡ Ok i → Step f keys kids k i r
  none : (get_or keys i 0 ≡ k → ⊥) → get_or kids (2 * i + r % 2) 0 ≡ 0 → seek_from (suc f) keys kids k i r ≡ Err (2 * i + r % 2) → Step f keys kids k i r
  down : (get_or keys i 0 ≡ k → ⊥) → 0 < get_or kids (2 * i + r % 2) 0 → seek_from (suc f) keys kids k i r ≡ seek_from f keys kids k (get_or kids (2 * i + r % 2) 0) (r / 2) → Step f keys kids k i r

pub step : (f : ℕ) (keys kids : List ℕ) (k i r : ℕ) → Step f keys kids k i r
step f keys kids k i r = go (eqb (get_or keys i 0) k) refl
  where
    child : eqb (get_or keys i 0) k ≡ false → (c : ℕ) → get_or kids (2 * i + r % 2) 0 ≡ c → Step f keys kids k i r
    child e zero p = none (eqb-false (get_or keys i 0) k e) p (rw (e, p, seek_from))
    child e (suc c) p = down (eqb-false (get_or keys i 0) k e) (omega arith) (rw (e, p, seek_from))

    go : (b : Bool) → eqb (get_or keys i 0) k ≡ b → Step f keys kids k i r
    go true e = here (eqb-true (get_or keys i 0) k e) (rw (e, seek_from))
    go false e = child e (get_or kids (2 * i + r % 2) 0) refl

-- the way down from node i with the digits r is the end of the whole way
pub record Seeking (keys kids : List ℕ) (used k i r : ℕ) : Type 0 where
  pub fuel : ℕ
  pub enough : used ≤ i + fuel
  pub inside : i < used
  pub rest : seek_from used keys kids k 0 k ≡ seek_from fuel keys kids k i r

module _ (keys kids : List ℕ) (used : ℕ) (t : Tree keys kids used) where
  pub seeking_start : (k : ℕ) → Seeking keys kids used k 0 k
  seeking_start k = record { fuel = used; enough = omega arith; inside = t.some; rest = refl }

  module _ (k i r : ℕ) (s : Seeking keys kids used k i r) where
    -- with one step of the bound taken
    one : (f : ℕ) × (s.fuel ≡ suc f)
    one = go s.fuel refl
      where
        go : (f : ℕ) → s.fuel ≡ f → (g : ℕ) × (s.fuel ≡ suc g)
        go zero e = absurd (omega (arith, s.enough, s.inside))
        go (suc f) e = (f, e)

    whole : seek_from used keys kids k 0 k ≡ seek_from (suc one.0) keys kids k i r
    whole = s.rest ∙ ap (λ (f : ℕ). seek_from f keys kids k i r) one.1

    pub seeking_node : get_or keys i 0 ≡ k → seek_from used keys kids k 0 k ≡ Ok i
    seeking_node e = by (step one.0 keys kids k i r)
      where
        by : Step one.0 keys kids k i r → seek_from used keys kids k 0 k ≡ Ok i
        by (here p q) = whole ∙ q
        by (none p q v) = absurd (p e)
        by (down p q v) = absurd (p e)

    seeking_free : (get_or keys i 0 ≡ k → ⊥) → get_or kids (2 * i + r % 2) 0 ≡ 0 → seek_from used keys kids k 0 k ≡ Err (2 * i + r % 2)
    seeking_free n e = by (step one.0 keys kids k i r)
      where
        by : Step one.0 keys kids k i r → seek_from used keys kids k 0 k ≡ Err (2 * i + r % 2)
        by (here p q) = absurd (n p)
        by (none p q v) = whole ∙ v
        by (down p q v) = absurd (omega (arith, q, e))

    seeking_down : (get_or keys i 0 ≡ k → ⊥) → (get_or kids (2 * i + r % 2) 0 ≡ 0 → ⊥) → Seeking keys kids used k (get_or kids (2 * i + r % 2) 0) (r / 2)
    seeking_down n e = by (step one.0 keys kids k i r)
      where
        by : Step one.0 keys kids k i r → Seeking keys kids used k (get_or kids (2 * i + r % 2) 0) (r / 2)
        by (here p q) = absurd (n p)
        by (none p q v) = absurd (e q)
        by (down p q v) =
            let d = t.deeper (2 * i + r % 2) q in
            record { fuel = one.0; enough = omega (arith, d.0, s.enough, one.1); inside = d.1; rest = whole ∙ v }

  -- a way that ends at a node ends at its key, and one that ends at a child that is not there ends beside a node
  ends_node : (f k i r j : ℕ) → used ≤ i + f → i < used → seek_from f keys kids k i r ≡ Ok j → (j < used) × (get_or keys j 0 ≡ k)
  ends_node zero k i r j l h e = absurd (omega arith)
  ends_node (suc f) k i r j l h e = by (step f keys kids k i r) (λ d. ends_node f k (get_or kids (2 * i + r % 2) 0) (r / 2) j (omega (arith, d.0)) d.1)
    where
      by : Step f keys kids k i r → ((2 * i + r % 2 < 2 * get_or kids (2 * i + r % 2) 0) × (get_or kids (2 * i + r % 2) 0 < used) → seek_from f keys kids k (get_or kids (2 * i + r % 2) 0) (r / 2) ≡ Ok j → (j < used) × (get_or keys j 0 ≡ k)) → (j < used) × (get_or keys j 0 ≡ k)
      by (here p q) rec = let z : i ≡ j = cc in (omega arith, ap (λ (m : ℕ). get_or keys m 0) (sym z) ∙ p)
      by (none p q v) rec = let z : ◌≡◌ {A = ℕ} 0 1 = cc in absurd (omega arith)
      by (down p q v) rec = rec (t.deeper (2 * i + r % 2) q) (sym v ∙ e)

  ends_free : (f k i r l : ℕ) → used ≤ i + f → i < used → seek_from f keys kids k i r ≡ Err l → (l < 2 * used) × (get_or kids l 0 ≡ 0)
  ends_free zero k i r j l h e = absurd (omega arith)
  ends_free (suc f) k i r j l h e = by (step f keys kids k i r) (λ d. ends_free f k (get_or kids (2 * i + r % 2) 0) (r / 2) j (omega (arith, d.0)) d.1)
    where
      by : Step f keys kids k i r → ((2 * i + r % 2 < 2 * get_or kids (2 * i + r % 2) 0) × (get_or kids (2 * i + r % 2) 0 < used) → seek_from f keys kids k (get_or kids (2 * i + r % 2) 0) (r / 2) ≡ Err j → (j < 2 * used) × (get_or kids j 0 ≡ 0)) → (j < 2 * used) × (get_or kids j 0 ≡ 0)
      by (here p q) rec = let z : ◌≡◌ {A = ℕ} 0 1 = cc in absurd (omega arith)
      by (none p q v) rec = let z : 2 * i + r % 2 ≡ j = cc in (omega arith, ap (λ (m : ℕ). get_or kids m 0) (sym z) ∙ q)
      by (down p q v) rec = rec (t.deeper (2 * i + r % 2) q) (sym v ∙ e)

  pub node_key : (k j : ℕ) → seek_from used keys kids k 0 k ≡ Ok j → (j < used) × (get_or keys j 0 ≡ k)
  node_key k j e = ends_node used k 0 k j (omega arith) t.some e

  pub free_child : (k l : ℕ) → seek_from used keys kids k 0 k ≡ Err l → (l < 2 * used) × (get_or kids l 0 ≡ 0)
  free_child k l e = ends_free used k 0 k l (omega arith) t.some e

  -- no node has the key of a way that ends at a child that is not there
  pub free_new : (k l : ℕ) → seek_from used keys kids k 0 k ≡ Err l → (j : ℕ) → j < used → get_or keys j 0 ≡ k → ⊥
  free_new k l e j h p =
      let q : seek_from used keys kids k 0 k ≡ Ok j = subst (λ (m : ℕ). seek_from used keys kids m 0 m ≡ Ok j) p (t.found j h) in
      let z : ◌≡◌ {A = ℕ} 0 1 = cc in
      omega arith

-- the same for the digit b and the child x that the code has read
module _ (keys kids : List ℕ) (used : ℕ) (t : Tree keys kids used) (k i r : ℕ) (s : Seeking keys kids used k i r) (b x : ℕ) (eb : b ≡ r % 2) (ex : x ≡ get_or kids (2 * i + b) 0) (n : get_or keys i 0 ≡ k → ⊥) where
  read : get_or kids (2 * i + r % 2) 0 ≡ x
  read = ap (λ (d : ℕ). get_or kids (2 * i + d) 0) (sym eb) ∙ sym ex

  pub seeking_stop : x ≡ 0 → Err (2 * i + b) ≡ seek_from used keys kids k 0 k
  seeking_stop z = ap (λ (d : ℕ). Err (2 * i + d)) eb ∙ sym (seeking_free keys kids used t k i r s n (read ∙ z))

  pub seeking_on : (x ≡ 0 → ⊥) → Seeking keys kids used k x (r / 2)
  seeking_on z = subst (λ (y : ℕ). Seeking keys kids used k y (r / 2)) read (seeking_down keys kids used t k i r s n (λ e. z (sym read ∙ e)))

  pub seeking_less : (x ≡ 0 → ⊥) → (i < x) × (x < used)
  seeking_less z =
      let d = t.deeper (2 * i + b) (omega (arith, ex, z)) in
      (omega (arith, d.0, ex), omega (arith, d.1, ex))
