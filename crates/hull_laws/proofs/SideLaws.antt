-- The two chains joined are the hull: the lower one from left to right, and the upper one back. All corners lie on or left of each step.
-- Assumes nothing.
use mathlib.Core.Path.{◌≡◌, refl, sym, ap, ◌∙◌, subst}
use mathlib.Core.List.Memᴰ
use mathlib.Core.List.{List, [], ◌∷◌, ◌++◌, Memᴰ}
use mathlib.Core.Logic.{◌⊎◌, inl, inr, ⊎_elim}
use lib.IntN.{ℤ, pos, neg_ℤ}
use lib.Signed.{◌≤ℤ◌, ◌<ℤ◌}
use Rattle.int_laws.proofs.LinearLaws.{zarith, le_or_lt, up_neg, dn-neg}
use Rattle.int_laws.proofs.RingLaws.{v, k, ◌⊖◌}
use Rattle.int_laws.proofs.SignLaws.{h≤, eqt, by≤, ◌⊞◌, ◌⊠◌}
use Rattle.grid.specs.declared.Corner.{Corner}
use Rattle.grid.specs.Grid.{numbers, Begins}
use Rattle.lists.specs.Lists.{Distinct}
use Rattle.hull.specs.Hull.{Ccw, Exposed, HullIs, cross, AllLeft, LeftOfPath, Encloses, OnLeft}
use Rattle.hull_laws.proofs.ChainLaws.{Chain, Ends, chain, chain_ok, chain-sub, cut, turns}
use Rattle.hull_laws.proofs.CornerLaws.{on_same, O, X, Y, cr, corner_dec}
use Rattle.hull_laws.proofs.ExposedLaws.{chain_exposed, cover}
use Rattle.hull_laws.proofs.TurnedLaws.{Lows, chain-all, lows_begin, neg, neg-neg, negs, cross-neg, in_negs, negs_in, negs-negs, exposed_neg, neg_exposed}
use Rattle.hull_laws.proofs.OrderLaws.{Edges, edges_tail, ordered, begins_x}
use Rattle.hull_laws.proofs.RoundLaws.{last_of, behead, trim, round, Off, in_last, in_behead, behead_in, in_trim, trim_in, off_trim, off_append, off_behead, edges_join, edges_trim, edges_behead}

pub ne_x : (a b : Corner) → a.0 <ℤ b.0 → ¬ (a ≡ b)
ne_x a b h e = clash (ap (λ (z : Corner). z.0) e)
  where
    clash : a.0 ≡ b.0 → ⊥
    clash e = omega zarith

neg_lt : (a b : ℤ) → neg_ℤ a <ℤ neg_ℤ b → b <ℤ a
neg_lt a b h = omega (zarith, up_neg a, dn-neg a, up_neg b, dn-neg b)

neg_eq : (a b : ℤ) → neg_ℤ a ≡ neg_ℤ b → a ≡ b
neg_eq a b h = omega (zarith, up_neg a, dn-neg a, up_neg b, dn-neg b)

chain_edges : (P : List Corner) (b : Corner) (s : List Corner) → Chain P (b ∷ s) → Edges P (b ∷ s)
chain_edges P b [] c = tt
chain_edges P b (a ∷ s) c = (ne_x b a c.0, c.1, chain_edges P a s c.3)

chain-ends : (P : List Corner) (b : Corner) (s : List Corner) → Chain P (b ∷ s) → (q : Corner) → Memᴰ q P → Ends (last_of b s) q
unfolding last_of
chain-ends P b [] c = c
chain-ends P b (a ∷ s) c = chain-ends P a s c.3

chain-right : (P : List Corner) (b : Corner) (s : List Corner) → Chain P (b ∷ s) → (q : Corner) → Memᴰ q s → b.0 <ℤ q.0
chain-right P b [] c q m = absurd (Memᴰ.not-nil m)
chain-right P b (a ∷ s) c q (Memᴰ.head e) = subst (λ (z : Corner). b.0 <ℤ z.0) (sym e) c.0
chain-right P b (a ∷ s) c q (Memᴰ.tail m) = omega (zarith, chain-right P a s c.3 q m, c.0)

supp_neg : (P : List Corner) (a b : Corner) → AllLeft (negs P) (neg a) (neg b) → AllLeft P a b
supp_neg P a b h q m = record { on = subst (λ (z : ℤ). pos 0 ≤ℤ z) (cross-neg a b q) (h (neg q) (in_negs P q m)).on }

neg_edges : (P : List Corner) (b : Corner) (s : List Corner) → Chain (negs P) (neg b ∷ negs s) → Edges P (b ∷ s)
unfolding negs
neg_edges P b [] c = tt
neg_edges P b (a ∷ s) c = ((λ e. ne_x a b (neg_lt b.0 a.0 c.0) (sym e)), supp_neg P b a c.1, neg_edges P a s c.3)

neg_off : (P : List Corner) (o : Corner) → (b : Corner) (s : List Corner) → ((q : Corner) → Memᴰ q (b ∷ s) → o.0 ≤ℤ q.0) → Chain (negs P) (neg b ∷ negs s) → Off o (b ∷ s)
unfolding negs
neg_off P o b [] f c = tt
neg_off P o b (a ∷ s) f c = (ne_x o b (omega (zarith, neg_lt b.0 a.0 c.0, f a (Memᴰ.tail (Memᴰ.head refl)))), neg_off P o a s (λ q m. f q (Memᴰ.tail m)) c.3)

vertical : (c d q : Corner) → d.0 ≡ c.0 → c.1 ≤ℤ d.1 → q.0 ≤ℤ c.0 → OnLeft c d q
unfolding cross
vertical c d q e i j =
    let ρ = numbers (c ∷ d ∷ q ∷ []) in
    record { on = by≤ O (cr 0 1 2) (h≤ 6 ρ (Y 0) (Y 1) i ⊠ h≤ 6 ρ (X 2) (X 0) j ⊞ eqt 6 ρ (X 0) (X 1) (Y 2 ⊖ Y 0) (sym e)) tt }

ends_x : (b q : Corner) → Ends b q → q.0 ≤ℤ b.0
ends_x b q (inl h) = omega zarith
ends_x b q (inr h) = omega (zarith, h.0)

-- a path with its last corner left out if it is c: the way to c ends it
close_trim : (P : List Corner) (c b : Corner) (s : List Corner) → Edges P (b ∷ s) → (¬ (last_of b s ≡ c) → AllLeft P (last_of b s) c) → LeftOfPath P (b ∷ (trim c s ++ (c ∷ [])))
unfolding trim last_of
close_trim P c b [] h f = go (corner_dec b c)
  where
    go : Dec (b ≡ c) → LeftOfPath P (b ∷ (c ∷ []))
    go (yes e) = ((λ q n. subst (λ (z : Corner). OnLeft z c q) (sym e) (on_same c q)), tt)
    go (no e) = (f e, tt)
close_trim P c b (a ∷ []) h f = go (corner_dec a c)
  where
    go : (z : Dec (a ≡ c)) → LeftOfPath P (b ∷ (elim z as (λ x. List Corner) [ yes e ↦ [] | no e ↦ a ∷ [] ] ++ (c ∷ [])))
    go (yes e) = (subst (λ (z : Corner). AllLeft P b z) e h.1, tt)
    go (no e) = (h.1, (f e, tt))
close_trim P c b (a ∷ (z ∷ s)) h f = (h.1, close_trim P c a (z ∷ s) h.2 f)

last-append : (b : Corner) (s t : List Corner) → last_of b (s ++ t) ≡ last_of (last_of b s) t
unfolding last_of
last-append b [] t = refl
last-append b (a ∷ s) t = last-append a s t

last-behead : (c d : Corner) (t : List Corner) → last_of c (behead c (d ∷ t)) ≡ last_of d t
unfolding last_of behead
last-behead c d t = go (corner_dec d c)
  where
    go : (z : Dec (d ≡ c)) → last_of c (elim z as (λ x. List Corner) [ yes e ↦ t | no e ↦ d ∷ t ]) ≡ last_of d t
    go (yes e) = ap (λ (z : Corner). last_of z t) (sym e)
    go (no e) = refl

last-negs : (d : Corner) (t : List Corner) → last_of (neg d) (negs t) ≡ neg (last_of d t)
unfolding last_of negs
last-negs d [] = refl
last-negs d (a ∷ t) = last-negs a t

-- the two chains, round, are the hull
module _ (P : List Corner) (b : Corner) (s : List Corner) (d : Corner) (t : List Corner)
    (c : Chain P (b ∷ s)) (sub : (q : Corner) → Memᴰ q (b ∷ s) → Memᴰ q P) (beg : (q : Corner) → Memᴰ q P → Begins b q)
    (c' : Chain (negs P) (neg d ∷ negs t)) (sub' : (q : Corner) → Memᴰ q (d ∷ t) → Memᴰ q P) (beg' : (q : Corner) → Memᴰ q (negs P) → Begins (neg d) q) where
  m : Corner
  m = last_of b s

  R : List Corner
  R = trim b (s ++ behead m (d ∷ t))

  neg-sub : (q : Corner) → Memᴰ q (neg d ∷ negs t) → Memᴰ q (negs P)
  unfolding negs
  neg-sub q n = subst (λ (z : Corner). Memᴰ z (negs P)) (neg-neg q) (in_negs P (neg q) (sub' (neg q) (negs_in (d ∷ t) (neg q) (subst (λ (z : Corner). Memᴰ z (neg d ∷ negs t)) (sym (neg-neg q)) n))))

  exp_c : (q : Corner) → Memᴰ q (b ∷ s) → Exposed P q
  exp_c = chain_exposed P b s c sub beg

  exp_d : (q : Corner) → Memᴰ q (d ∷ t) → Exposed P q
  unfolding negs
  exp_d q n = neg_exposed P q (chain_exposed (negs P) (neg d) (negs t) c' neg-sub beg' (neg q) (in_negs (d ∷ t) q n))

  -- the right edge of the hull
  side : ¬ (d ≡ m) → AllLeft P m d
  unfolding m
  side z q n = go (chain-ends P b s c d (sub' d (Memᴰ.head refl))) (chain-ends P b s c q n) (beg' (neg m) (in_negs P m (sub m (in_last b s))))
    where
      go : Ends m d → Ends m q → Begins (neg d) (neg m) → OnLeft m d q
      go (inr e) f g = vertical m d q e.0 e.1 (ends_x m q f)
      go (inl e) f (inl g) = absurd (clash (neg_lt d.0 m.0 g))
        where
          clash : m.0 <ℤ d.0 → ⊥
          clash h = omega zarith
      go (inl e) f (inr g) = absurd (clash (neg_eq d.0 m.0 g.0))
        where
          clash : d.0 ≡ m.0 → ⊥
          clash h = omega zarith

  joined : Edges P (b ∷ (s ++ behead m (d ∷ t)))
  unfolding m
  joined = edges_join P b s (behead m (d ∷ t)) (chain_edges P b s c) (edges_behead P m d t (neg_edges P d t c') side)

  edges : Edges P (b ∷ R)
  unfolding m R
  edges = edges_trim P b b (s ++ behead m (d ∷ t)) joined

  -- the left edge of the hull
  back : AllLeft P (last_of d t) b
  back = supp_neg P (last_of d t) b left
    where
      z : Corner
      z = last_of d t

      ends : (q : Corner) → Memᴰ q (negs P) → Ends (neg z) q
      ends q n = subst (λ (k : Corner). Ends k q) (last-negs d t) (chain-ends (negs P) (neg d) (negs t) c' q n)

      left : AllLeft (negs P) (neg z) (neg b)
      left q n = go (ends (neg b) (in_negs P b (sub b (Memᴰ.head refl)))) (ends q n) (beg z (sub' z (in_last d t)))
        where
          go : Ends (neg z) (neg b) → Ends (neg z) q → Begins b z → OnLeft (neg z) (neg b) q
          go (inr e) f g = vertical (neg z) (neg b) q e.0 e.1 (ends_x (neg z) q f)
          go (inl e) f (inl g) = absurd (clash (neg_lt b.0 z.0 e))
            where
              clash : z.0 <ℤ b.0 → ⊥
              clash h = omega zarith
          go (inl e) f (inr g) = absurd (clash (neg_lt b.0 z.0 e) g.0)
            where
              clash : z.0 <ℤ b.0 → b.0 ≡ z.0 → ⊥
              clash h i = omega zarith

  round_path : LeftOfPath P (b ∷ (R ++ (b ∷ [])))
  unfolding R m
  round_path = close_trim P b b (s ++ behead m (d ∷ t)) joined (λ n. subst (λ (z : Corner). AllLeft P z b) (sym (last-append b s (behead m (d ∷ t)) ∙ last-behead m d t)) back)

  off_r : (q : Corner) → Memᴰ q R → ¬ (b ≡ q)
  unfolding R m
  off_r = off_trim b (s ++ behead m (d ∷ t)) (off_append b s (behead m (d ∷ t)) (λ q n. ne_x b q (chain-right P b s c q n)) (off_behead b m (d ∷ t) (neg_off P b d t (λ q n. begins_x b q (beg q (sub' q n))) c')))

  exp_r : (q : Corner) → Memᴰ q R → Exposed P q
  unfolding R m
  exp_r q n = ⊎_elim (λ h. exp_c q (Memᴰ.tail h)) (λ h. exp_d q (in_behead m (d ∷ t) q h)) (Memᴰ.append_cases s (in_trim b (s ++ behead m (d ∷ t)) q n))

  in_c : (q : Corner) → Memᴰ q (b ∷ s) → Memᴰ q (b ∷ R)
  unfolding R m
  in_c q (Memᴰ.head e) = Memᴰ.head e
  in_c q (Memᴰ.tail n) = ⊎_elim Memᴰ.tail Memᴰ.head (trim_in b (s ++ behead m (d ∷ t)) q (Memᴰ.append_left (behead m (d ∷ t)) n))

  in_d : (q : Corner) → Memᴰ q (d ∷ t) → Memᴰ q (b ∷ R)
  unfolding R m
  in_d q n = ⊎_elim (λ h. ⊎_elim Memᴰ.tail Memᴰ.head (trim_in b (s ++ behead m (d ∷ t)) q (Memᴰ.append_right s h))) (λ e. subst (λ (z : Corner). Memᴰ z (b ∷ R)) (sym e) (in_c m (in_last b s))) (behead_in m (d ∷ t) q n)

  all : (q : Corner) → Exposed P q → Memᴰ q (b ∷ R)
  unfolding negs exposed_neg
  all q e = go (le_or_lt e.v (pos 0))
    where
      go : (e.v ≤ℤ pos 0) ⊎ (pos 0 <ℤ e.v) → Memᴰ q (b ∷ R)
      go (inl h) = in_c q (cover P q e h b s c sub (begins_x b q (beg q e.visited)))
      go (inr h) = in_d q (negs_in (d ∷ t) q (cover (negs P) (neg q) (exposed_neg P q e) (omega (zarith, up_neg e.v, dn-neg e.v)) (neg d) (negs t) c' neg-sub (begins_x (neg d) (neg q) (beg' (neg q) (in_negs P q e.visited)))))

  round_hull : HullIs P (round (b ∷ s) (d ∷ t))
  unfolding round R m
  round_hull = record { starts = (sub b (Memᴰ.head refl), beg); corners = λ q. (mine q, all q); once = turns.1; ccw = turns.0 }
    where
      turns : Ccw (b ∷ R) × Distinct (b ∷ R)
      turns = ordered P b (sub b (Memᴰ.head refl)) beg R (edges_tail P b R edges) exp_r off_r

      mine : (q : Corner) → Memᴰ q (b ∷ R) → Exposed P q
      mine q (Memᴰ.head e) = exp_c q (Memᴰ.head e)
      mine q (Memᴰ.tail n) = exp_r q n

  both : HullIs P (round (b ∷ s) (d ∷ t)) × Encloses P (round (b ∷ s) (d ∷ t))
  unfolding round R m
  both = (round_hull, round_path)

-- the lowest of each column, and the lowest of each column of the same corners turned by half a turn: their chains, joined, are the hull
pub hull_ok : (P : List Corner) (p : Corner) → Memᴰ p P → (lows turned : List Corner) → Lows P lows → Lows (negs P) turned → HullIs P (round (chain lows) (negs (chain turned))) × Encloses P (round (chain lows) (negs (chain turned)))
unfolding chain negs
hull_ok P p i [] ns h g = absurd (Memᴰ.not-nil (h.low p i).1)
hull_ok P p i (b ∷ ms) [] h g = absurd (Memᴰ.not-nil (g.low (neg p) (in_negs P p i)).1)
hull_ok P p i (b ∷ ms) (d ∷ ns) h g =
    both P b (cut b (chain ms)) (neg d) (negs (cut d (chain ns)))
    (chain-all P (b ∷ ms) h (b ∷ cut b (chain ms)) (chain_ok (b ∷ ms) h.sorted))
    (λ q n. h.sub q (chain-sub (b ∷ ms) q n))
    (lows_begin P b ms h)
    (subst (Chain (negs P)) (sym (negs-negs (d ∷ cut d (chain ns)))) (chain-all (negs P) (d ∷ ns) g (d ∷ cut d (chain ns)) (chain_ok (d ∷ ns) g.sorted)))
    (λ q n. negs_in P q (g.sub (neg q) (chain-sub (d ∷ ns) (neg q) (subst (Memᴰ (neg q)) (negs-negs (d ∷ cut d (chain ns))) (in_negs (neg d ∷ negs (cut d (chain ns))) q n)))))
    (subst (λ (z : Corner). (q : Corner) → Memᴰ q (negs P) → Begins z q) (sym (neg-neg d)) (lows_begin (negs P) d ns g))
