-- Blocks: floors of neighbours, that the blocks of a room are connected, and blocks of one panel.
-- Assumes nothing.
use mathlib.Core.List.{List}
use mathlib.Core.Logic.{◌⊎◌, inl, inr, ⊎_elim, ◌↔◌}
use mathlib.Core.Path.{◌≡◌, refl, ap, ap₂, sym, ◌∙◌, subst}
use Prim.Native.Nat.{ℕ, zero, suc, ◌+◌, ◌*◌, ◌/◌, ◌%◌, ◌<◌}
use native.Mathlib.Decide.{dec_lt}
use native.Mathlib.Nat.{div-add-mod', mod-lt, suc-mul, zero-div, div-one}
use native.Mathlib.Omega.{arith}
use lib.Arith.{digits_div}
use lib.IntN.{ℤ, pos, negsuc, suc_ℤ}
use Rattle.lists.specs.Lists.{Below}
use Rattle.grid.specs.declared.{Corner.Corner, Panel.Panel}
use Rattle.trace.specs.Verdict.{IsRoom}
use Rattle.panels.specs.Inside.{Inside, left_of, right_of}
use Rattle.orthogonal.specs.Blocks.{floor_by, block, block_of, HoldsInside}
use Rattle.orthogonal_laws.specs.Connected.{JoinedIn, Connected}
use Rattle.orthogonal_laws.specs.Connected as connected
use Rattle.orthogonal_laws.proofs.JoinedLaws.{Beside, beside_edge, joined-beside}
use Rattle.orthogonal_laws.proofs.JoinedLaws as joined_laws
use Rattle.orthogonal_laws.proofs.InsideLaws.{room_connected}

module _ (g : ℕ) (some : 0 < g) where
  -- one more has the same quotient, or one more
  quotient_suc : (n : ℕ) → (suc n / g ≡ n / g) ⊎ (suc n / g ≡ suc (n / g))
  quotient_suc n =
      let e = div-add-mod' n g in
      let l = mod-lt n some in
      elim (dec_lt (suc (n % g)) g) [
        | yes h ↦ let s : suc n ≡ n / g * g + suc (n % g) = omega (arith, e) in inl (ap (λ (x : ℕ). x / g) s ∙ digits_div (n / g) h)
        | no h ↦ let s : suc n ≡ suc (n / g) * g + 0 = omega (arith, e, l, suc-mul (n / g) g) in inr (ap (λ (x : ℕ). x / g) s ∙ digits_div (suc (n / g)) some)
      ]

  pub floor_suc : (z : ℤ) → (floor_by g (suc_ℤ z) ≡ floor_by g z) ⊎ (floor_by g (suc_ℤ z) ≡ suc_ℤ (floor_by g z))
  floor_suc (pos n) = ⊎_elim (λ e. inl (ap pos e)) (λ e. inr (ap pos e)) (quotient_suc n)
  floor_suc (negsuc zero) = let e : 0 / g ≡ 0 = zero-div g in inr (ap pos e ∙ ap (λ (x : ℕ). suc_ℤ (negsuc x)) (sym e))
  floor_suc (negsuc (suc n)) = ⊎_elim (λ e. inl (ap negsuc (sym e))) (λ e. inr (ap (λ (x : ℕ). suc_ℤ (negsuc x)) (sym e))) (quotient_suc n)

  -- the blocks of neighbours are one block or neighbours
  block-beside : (u v : Panel) → Beside u v → (block_of g v ≡ block_of g u) ⊎ Beside (block_of g u) (block_of g v)
  block-beside u v (joined_laws.north e f) =
      let x : floor_by g v.0 ≡ floor_by g u.0 = ap (floor_by g) e in
      ⊎_elim (λ h. inl (ap₂ block x (ap (floor_by g) f ∙ h))) (λ h. inr (joined_laws.north x (ap (floor_by g) f ∙ h))) (floor_suc u.1)
  block-beside u v (joined_laws.west e f) =
      let y : floor_by g v.1 ≡ floor_by g u.1 = ap (floor_by g) f in
      ⊎_elim (λ h. inl (ap₂ block (sym (ap (floor_by g) e ∙ h)) y)) (λ h. inr (joined_laws.west (ap (floor_by g) e ∙ h) y)) (floor_suc v.0)
  block-beside u v (joined_laws.south e f) =
      let x : floor_by g v.0 ≡ floor_by g u.0 = ap (floor_by g) e in
      ⊎_elim (λ h. inl (ap₂ block x (sym (ap (floor_by g) f ∙ h)))) (λ h. inr (joined_laws.south x (ap (floor_by g) f ∙ h))) (floor_suc v.1)
  block-beside u v (joined_laws.east e f) =
      let y : floor_by g v.1 ≡ floor_by g u.1 = ap (floor_by g) f in
      ⊎_elim (λ h. inl (ap₂ block (ap (floor_by g) e ∙ h) y)) (λ h. inr (joined_laws.east (ap (floor_by g) e ∙ h) y)) (floor_suc u.0)

  module _ (c : Corner) (ds : List ℕ) where
    -- the block of a panel inside
    pub holds_of : (p : Panel) → Inside c ds p → HoldsInside c ds g (block_of g p)
    holds_of p i = record { panel = p; inside = i; block = refl }

    blocks_joined : (p q : Panel) → Inside c ds p → JoinedIn (Inside c ds) p q → JoinedIn (HoldsInside c ds g) (block_of g p) (block_of g q)
    blocks_joined p _ i connected.here = connected.here
    blocks_joined p _ i (connected.across d v j k) =
        let so = blocks_joined p (right_of d v) i j in
        ⊎_elim
        (λ e. subst (JoinedIn (HoldsInside c ds g) (block_of g p)) (sym e) so)
        (λ e. joined-beside (HoldsInside c ds g) (block_of g p) (block_of g (right_of d v)) (block_of g (left_of d v)) so e (holds_of (left_of d v) k))
        (block-beside (right_of d v) (left_of d v) (beside_edge d v))

    -- the blocks of a room are connected
    pub blocks_connected : IsRoom c ds → Below 4 ds → Connected (HoldsInside c ds g)
    blocks_connected r b p q h k =
        subst (λ (x : Panel). JoinedIn (HoldsInside c ds g) x q) h.block
        (subst (λ (x : Panel). JoinedIn (HoldsInside c ds g) (block_of g h.panel) x) k.block (blocks_joined h.panel k.panel h.inside (room_connected c ds r b h.panel k.panel h.inside k.inside)))

-- ---- blocks of one panel

floor_one : (z : ℤ) → floor_by 1 z ≡ z
floor_one (pos n) = ap pos (div-one n)
floor_one (negsuc n) = ap negsuc (div-one n)

block_one : (p : Panel) → block_of 1 p ≡ p
block_one p = ap₂ block (floor_one p.0) (floor_one p.1)

-- they are the panels inside
pub holds_one : (c : Corner) (ds : List ℕ) (p : Panel) → HoldsInside c ds 1 p ↔ Inside c ds p
holds_one c ds p = (λ h. subst (Inside c ds) (sym (block_one h.panel) ∙ h.block) h.inside, λ i. record { panel = p; inside = i; block = block_one p })
