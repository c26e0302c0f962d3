-- Two lists that have the ends of the hull's rows, one of them counted from east: the chain around them is the hull's outline.
-- Assumes nothing.
use mathlib.Core.Bool.{cond}
use mathlib.Core.List.{List, ◌∷◌, ◌++◌}
use mathlib.Core.Path.{◌≡◌, refl, ap, ap₂, sym, ◌∙◌, subst₂}
use Prim.Native.Nat.{ℕ, zero, suc, ◌+◌, ◌*◌, ◌-◌, ◌<◌, ◌≤◌}
use native.Mathlib.Omega.{arith}
use lib.Dec.{ltb}
use lib.ListN.{length, get_or}
use Rattle.lists.specs.Lists.{Below}
use Rattle.grid.specs.declared.Corner.{Corner}
use Rattle.trace.specs.Verdict.{IsRoom}
use Rattle.panels.specs.Inside.{panels_inside}
use Rattle.orthogonal.specs.Blocks.{HoldsInside}
use Rattle.orthogonal.specs.Call.{OutlinesHull}
use Rattle.orthogonal_chain_laws.specs.Chain.{Piled, corner_by, blocks_from, sideways, left_side, right_side, chain_from_row, home_row, chain_from_home}
use Rattle.orthogonal_chain_laws.proofs.RoomLaws.{chain_panels}
use Rattle.orthogonal_chain_laws.proofs.LengthLaws.{bulge_least, bulge_most}
use Rattle.orthogonal_chain_laws.proofs.HomeLaws.{home_row-is, chain_length}
use Rattle.orthogonal_laws.specs.HullRows.{least_over, most_over, hull_left, hull_right, RowEnds}
use Rattle.orthogonal_laws.proofs.BlockLaws.{blocks_connected}
use Rattle.orthogonal_laws.proofs.RowLaws.{hull_bulges, hull_piled}
use Rattle.orthogonal_laws.proofs.OutlineLaws.{rows_outline}

-- rows 0 to t that are the same have the same home, sides, chain and blocks
home_same : (l l' : ℕ → ℕ) (t : ℕ) → ((q : ℕ) → q ≤ t → l q ≡ l' q) → home_row l t ≡ home_row l' t
home_same l l' zero e = refl
home_same l l' (suc q) e =
    let h = home_same l l' q (λ k b. e k (omega arith)) in
    ap (λ (k : ℕ). cond (ltb (l (suc q)) (l k)) (suc q) k) h
    ∙ ap₂ (λ (a b : ℕ). cond (ltb a b) (suc q) (home_row l' q)) (e (suc q) (omega arith)) (e (home_row l' q) (omega (arith, (home_row-is l' q).among)))

left-same : (l l' : ℕ → ℕ) (m n : ℕ) → ((q : ℕ) → q ≤ m + n → l q ≡ l' q) → left_side l m n ≡ left_side l' m n
left-same l l' m zero e = refl
left-same l l' m (suc n) e = ap₂ (λ (a b : List ℕ). a ++ (3 ∷ b)) (ap₂ sideways (e (m + suc n) (omega arith)) (e (m + n) (omega arith))) (left-same l l' m n (λ q b. e q (omega arith)))

right-same : (r r' : ℕ → ℕ) (q n : ℕ) → ((k : ℕ) → k ≤ q + n → r k ≡ r' k) → right_side r q n ≡ right_side r' q n
right-same r r' q zero e = refl
right-same r r' q (suc n) e = ap₂ (λ (a b : List ℕ). 1 ∷ (a ++ b)) (ap₂ sideways (e q (omega arith)) (e (suc q) (omega arith))) (right-same r r' (suc q) n (λ k b. e k (omega arith)))

blocks_same : (l l' r r' : ℕ → ℕ) (m n : ℕ) → ((q : ℕ) → q < m + n → l q ≡ l' q) → ((q : ℕ) → q < m + n → r q ≡ r' q) → blocks_from l r m n ≡ blocks_from l' r' m n
blocks_same l l' r r' m zero e f = refl
blocks_same l l' r r' m (suc n) e f = omega (arith, e m (omega arith), f m (omega arith), blocks_same l l' r r' (suc m) n (λ q b. e q (omega arith)) (λ q b. f q (omega arith)))

module _ (l l' r r' : ℕ → ℕ) (t : ℕ) (e : (q : ℕ) → q ≤ t → l q ≡ l' q) (f : (q : ℕ) → q ≤ t → r q ≡ r' q) where
  row_same : (k : ℕ) → k ≤ t → chain_from_row l r t k ≡ chain_from_row l' r' t k
  row_same k h =
      ap₂ (λ (a b : List ℕ). a ++ b) (left-same l l' 0 k (λ q b. e q (omega arith)))
      (ap₂ (λ (a b : List ℕ). a ++ b) (ap₂ sideways (e 0 (omega arith)) (f 0 (omega arith)))
      (ap₂ (λ (a b : List ℕ). a ++ b) (right-same r r' 0 t (λ q b. f q (omega arith)))
      (ap₂ (λ (a b : List ℕ). a ++ (3 ∷ b)) (ap₂ sideways (f t (omega arith)) (e t (omega arith))) (left-same l l' k (t - k) (λ q b. e q (omega arith))))))

  chain_same : chain_from_home l r t ≡ chain_from_home l' r' t
  chain_same = row_same (home_row l t) (home_row-is l t).among ∙ ap (chain_from_row l' r' t) (home_same l l' t e)

-- right ends counted from east are left ends
east-over : (span : ℕ) (f : ℕ → ℕ) (m n : ℕ) → most_over (λ q. span - f q) m n ≡ span - least_over f m n
east-over span f m zero = refl
east-over span f m (suc n) = omega (arith, east-over span f (suc m) n)

east-right : (span : ℕ) (f : ℕ → ℕ) (t q : ℕ) → hull_right (λ k. span - f k) t q ≡ span - hull_left f t q
east-right span f t q = omega (arith, east-over span f 0 q, east-over span f q (t - q))

module _ (c : Corner) (ds : List ℕ) (room : IsRoom c ds) (digits : Below 4 ds) (g : ℕ) (some : 0 < g) (o : Corner) (l f : ℕ → ℕ) (span t : ℕ) (ends : RowEnds (HoldsInside c ds g) o l (λ q. span - f q) t) (a b : List ℕ) (ea : (q : ℕ) → q ≤ t → get_or a q 0 ≡ hull_left l t q) (eb : (q : ℕ) → q ≤ t → get_or b q 0 ≡ hull_left f t q) where
  abbrev L : ℕ → ℕ
  L q = get_or a q 0

  abbrev R : ℕ → ℕ
  R q = span - get_or b q 0

  abbrev M : ℕ → ℕ
  M q = get_or b q 0

  abbrev L' : ℕ → ℕ
  L' = hull_left l t

  abbrev R' : ℕ → ℕ
  R' = hull_right (λ q. span - f q) t

  er : (q : ℕ) → q ≤ t → R q ≡ R' q
  er q h = ap (λ (n : ℕ). span - n) (eb q h) ∙ sym (east-right span f t q)

  piled : Piled L' R' t
  piled = hull_piled (HoldsInside c ds g) (blocks_connected g some c ds room digits) o l (λ q. span - f q) t ends

  chains : chain_from_home L R t ≡ chain_from_home L' R' t
  chains = chain_same L L' R R' t ea er

  homes : home_row L t ≡ home_row L' t
  homes = home_same L L' t ea

  starts : corner_by o (get_or a (home_row L t) 0) (home_row L t) ≡ corner_by o (L' (home_row L' t)) (home_row L' t)
  starts = ap (λ (k : ℕ). corner_by o (get_or a k 0) k) homes ∙ ap (λ (x : ℕ). corner_by o x (home_row L' t)) (ea (home_row L' t) (home_row-is L' t).among)

  pub pile_outline : OutlinesHull c ds g (corner_by o (get_or a (home_row L t) 0) (home_row L t)) (chain_from_home L R t)
  pile_outline = subst₂ (OutlinesHull c ds g) (sym starts) (sym chains) (rows_outline c ds room digits g some o l (λ q. span - f q) t ends)

  pub pile_blocks : panels_inside (corner_by o (get_or a (home_row L t) 0) (home_row L t)) (chain_from_home L R t) ≡ blocks_from L R 0 (suc t)
  pile_blocks =
      ap₂ panels_inside starts chains ∙ chain_panels o L' R' t piled (home_row L' t) (home_row-is L' t).among
      ∙ sym (blocks_same L L' R R' 0 (suc t) (λ q h. ea q (omega arith)) (λ q h. er q (omega arith)))

  -- a left end and a right end counted from east are less than the whole
  pub pile_fits : (q : ℕ) → q ≤ t → get_or a q 0 + get_or b q 0 ≤ span
  pile_fits q h = omega (arith, piled.wide q h, ea q h, er q h)

  pub pile_length : length (chain_from_home L R t) ≡ 2 * (span - get_or b (home_row M t) 0 - get_or a (home_row L t) 0 + suc t)
  pile_length =
      let w = hull_bulges l (λ q. span - f q) t in
      let k : ℕ = w.0 in
      let j : ℕ = w.1 in
      let u = w.2 in
      let h = home_row-is L t in
      let i = home_row-is M t in
      let west : L' k ≡ get_or a (home_row L t) 0 = omega (arith, bulge_least u (home_row L t) h.among, ea (home_row L t) h.among, h.least k u.left, ea k u.left) in
      let east : R' j ≡ span - get_or b (home_row M t) 0 = omega (arith, bulge_most u (home_row M t) i.among, er (home_row M t) i.among, i.least j u.right, er j u.right) in
      ap length chains ∙ chain_length piled u ∙ omega (arith, west, east)
