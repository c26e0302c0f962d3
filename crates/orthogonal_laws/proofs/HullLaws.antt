-- The orthogonal hull: there is at most one, a larger set has a larger one, and that of a room's blocks is by quadrants.
-- Assumes nothing.
use mathlib.Core.Bool.{Bool, true, false, ◌&&◌}
use mathlib.Core.List.{List}
use mathlib.Core.Logic.{◌↔◌}
use mathlib.Core.Path.{◌≡◌, refl, ap₂, sym, ◌∙◌, subst}
use Prim.Native.Nat.{ℕ, ◌%◌, ◌<◌}
use borrow.Author.Tests.{eqb-true}
use Rattle.int_laws.proofs.LinearLaws.{zarith}
use Rattle.lists.specs.Lists.{Below, any}
use Rattle.lists.proofs.FindLaws.{bool_agree, any-mem, any_some}
use Rattle.lists.proofs.GatherLaws.{and_left, and_right}
use Rattle.grid.specs.declared.{Corner.Corner, Panel.Panel}
use Rattle.trace.specs.Verdict.{IsRoom}
use Rattle.panels.specs.Box.{box_of, panels_in}
use Rattle.panels.specs.Inside.{edges_beside, inside}
use Rattle.room_laws.proofs.InsideLaws.{inside_found}
use Rattle.orthogonal.specs.Blocks.{floor_by, block, block_of, HoldsInside, Contains, Unbroken, Passing, OrthogonalHullIs}
use Rattle.orthogonal_laws.specs.Connected.{Connected, Holding, Quadrants}
use Rattle.orthogonal_laws.proofs.JoinedLaws.{Side, side, side_yes, yes_side, quadrants_in}
use Rattle.orthogonal_laws.proofs.BlockLaws.{blocks_connected}

-- a larger set has a larger hull
pub hull_larger : {B C : Panel → Type 0} {H J : Panel → Bool} → OrthogonalHullIs B H → OrthogonalHullIs C J → Contains B C → Contains (Passing H) (Passing J)
hull_larger {J = J} h j f = h.smallest J (λ b i. j.contains b (f b i)) j.unbroken

-- so there is only one
pub hull_one : {B : Panel → Type 0} {H J : Panel → Bool} → OrthogonalHullIs B H → OrthogonalHullIs B J → (b : Panel) → H b ≡ J b
hull_one {H = H} {J = J} h j b = bool_agree (H b) (J b) (hull_larger h j (λ c i. i) b) (hull_larger j h (λ c i. i) b)

-- an unbroken set is its own hull
pub unbroken_hull : (H : Panel → Bool) → Unbroken (Passing H) → OrthogonalHullIs (Passing H) H
unbroken_hull H u = record { contains = λ b i. i; unbroken = u; smallest = λ K c v b i. c b i }

-- so the hull of the hull is the hull
pub hull_again : {B : Panel → Type 0} {H : Panel → Bool} → OrthogonalHullIs B H → OrthogonalHullIs (Passing H) H
hull_again {H = H} h = unbroken_hull H h.unbroken

-- sets with the same blocks are unbroken together
pub unbroken_same : {K L : Panel → Type 0} → ((b : Panel) → K b ↔ L b) → Unbroken K → Unbroken L
unbroken_same e u =
    record {
      row = λ a c d b x y i j. (e (block c b)).0 (u.row a c d b x y ((e (block a b)).1 i) ((e (block d b)).1 j));
      column = λ a b c d x y i j. (e (block a c)).0 (u.column a b c d x y ((e (block a b)).1 i) ((e (block a d)).1 j));
    }

-- one hull serves two sets with the same blocks, and two tests that agree
pub hull_same : {B C : Panel → Type 0} {H J : Panel → Bool} → ((b : Panel) → B b ↔ C b) → ((b : Panel) → H b ≡ J b) → OrthogonalHullIs B H → OrthogonalHullIs C J
hull_same {H = H} {J = J} e f h =
    record {
      contains = λ b i. sym (f b) ∙ h.contains b ((e b).1 i);
      unbroken = unbroken_same (λ b. (λ i. sym (f b) ∙ i, λ i. f b ∙ i)) h.unbroken;
      smallest = λ K c u b i. h.smallest K (λ b k. c b ((e b).0 k)) u b (f b ∙ i);
    }

-- ---- quadrants

-- a block that lies still further out on a side
further : {B X Y M N : Panel → Type 0} → ((b : Panel) → X b → M b) → ((b : Panel) → Y b → N b) → Holding B X Y → Holding B M N
further f g h = record { at = h.at; one = h.one; x = f h.at h.x; y = g h.at h.y }

itself : {B X Y : Panel → Type 0} (p : Panel) → B p → X p → Y p → Holding B X Y
itself p b x y = record { at = p; one = b; x = x; y = y }

-- the blocks that have blocks of B in all four quadrants are the hull of a connected B
quadrants_hull : (B : Panel → Type 0) → Connected B → (K : Panel → Bool) → ((p : Panel) → (K p ≡ true) ↔ Quadrants B p) → OrthogonalHullIs B K
quadrants_hull B joined K k =
    record {
      contains = λ p b. (k p).1 (record { south_west = itself p b (omega zarith) (omega zarith); south_east = itself p b (omega zarith) (omega zarith); north_west = itself p b (omega zarith) (omega zarith); north-east = itself p b (omega zarith) (omega zarith) });
      unbroken =
          record {
            row = λ a c e b h l x y.
                let u = (k (block a b)).0 x in
                let v = (k (block e b)).0 y in
                (k (block c b)).1
                (record {
                  south_west = further (λ p i. omega (zarith, i, h)) (λ p i. i) u.south_west;
                  south_east = further (λ p i. omega (zarith, i, l)) (λ p i. i) v.south_east;
                  north_west = further (λ p i. omega (zarith, i, h)) (λ p i. i) u.north_west;
                  north-east = further (λ p i. omega (zarith, i, l)) (λ p i. i) v.north-east;
                });
            column = λ a b d f h l x y.
                let u = (k (block a b)).0 x in
                let v = (k (block a f)).0 y in
                (k (block a d)).1
                (record {
                  south_west = further (λ p i. i) (λ p i. omega (zarith, i, h)) u.south_west;
                  south_east = further (λ p i. i) (λ p i. omega (zarith, i, h)) u.south_east;
                  north_west = further (λ p i. i) (λ p i. omega (zarith, i, l)) v.north_west;
                  north-east = further (λ p i. i) (λ p i. omega (zarith, i, l)) v.north-east;
                });
          };
      smallest = λ L c u p i. quadrants_in B joined p ((k p).0 i) (Passing L) c u;
    }

-- the blocks of a room
module _ (c : Corner) (ds : List ℕ) (r : IsRoom c ds) (b : Below 4 ds) (g : ℕ) (some : 0 < g) where
  abbrev B : Panel → Type 0
  B = HoldsInside c ds g

  -- the room has a block on two sides of p
  abbrev in_quarter : Bool → Bool → Panel → Panel → Bool
  in_quarter s t p u = inside c ds u && (side s (floor_by g u.0) p.0 && side t (floor_by g u.1) p.1)

  abbrev has_quarter : Bool → Bool → Panel → Bool
  has_quarter s t p = any (in_quarter s t p) (panels_in (box_of c ds))

  quarter_has : (s t : Bool) (p : Panel) → (has_quarter s t p ≡ true) ↔ Holding B (λ u. Side s u.0 p.0) (λ u. Side t u.1 p.1)
  quarter_has s t p = (found, finds)
    where
      found : has_quarter s t p ≡ true → Holding B (λ u. Side s u.0 p.0) (λ u. Side t u.1 p.1)
      found e =
          let m = any_some (in_quarter s t p) (panels_in (box_of c ds)) e in
          let u : Panel = m.0 in
          let i = and_left (inside c ds u) (side s (floor_by g u.0) p.0 && side t (floor_by g u.1) p.1) m.2 in
          let k = and_right (inside c ds u) (side s (floor_by g u.0) p.0 && side t (floor_by g u.1) p.1) m.2 in
          record {
            at = block_of g u;
            one = record { panel = u; inside = eqb-true (edges_beside c ds u % 2) 1 i; block = refl };
            x = side_yes s (floor_by g u.0) p.0 (and_left (side s (floor_by g u.0) p.0) (side t (floor_by g u.1) p.1) k);
            y = side_yes t (floor_by g u.1) p.1 (and_right (side s (floor_by g u.0) p.0) (side t (floor_by g u.1) p.1) k);
          }

      finds : Holding B (λ u. Side s u.0 p.0) (λ u. Side t u.1 p.1) → has_quarter s t p ≡ true
      finds h =
          let u : Panel = h.one.panel in
          let f = inside_found c ds r.closed u h.one.inside in
          any-mem (in_quarter s t p) u (panels_in (box_of c ds)) f.0
          (ap₂ ◌&&◌ f.1
          (ap₂ ◌&&◌
          (yes_side s (floor_by g u.0) p.0 (subst (λ (q : Panel). Side s q.0 p.0) (sym h.one.block) h.x))
          (yes_side t (floor_by g u.1) p.1 (subst (λ (q : Panel). Side t q.1 p.1) (sym h.one.block) h.y))))

  abbrev has_quarters : Panel → Bool
  has_quarters p = (has_quarter true true p && has_quarter false true p) && (has_quarter true false p && has_quarter false false p)

  quarters_has : (p : Panel) → (has_quarters p ≡ true) ↔ Quadrants B p
  quarters_has p = (
    λ e.
        let south = and_left (has_quarter true true p && has_quarter false true p) (has_quarter true false p && has_quarter false false p) e in
        let north = and_right (has_quarter true true p && has_quarter false true p) (has_quarter true false p && has_quarter false false p) e in
        record {
          south_west = (quarter_has true true p).0 (and_left (has_quarter true true p) (has_quarter false true p) south);
          south_east = (quarter_has false true p).0 (and_right (has_quarter true true p) (has_quarter false true p) south);
          north_west = (quarter_has true false p).0 (and_left (has_quarter true false p) (has_quarter false false p) north);
          north-east = (quarter_has false false p).0 (and_right (has_quarter true false p) (has_quarter false false p) north);
        },
    λ q.
        ap₂ ◌&&◌
        (ap₂ ◌&&◌ ((quarter_has true true p).1 q.south_west) ((quarter_has false true p).1 q.south_east))
        (ap₂ ◌&&◌ ((quarter_has true false p).1 q.north_west) ((quarter_has false false p).1 q.north-east)),
  )

  quarters_hull : OrthogonalHullIs B has_quarters
  quarters_hull = quadrants_hull B (blocks_connected g some c ds r b) has_quarters quarters_has

  -- they have a hull
  pub room_hull : (H : Panel → Bool) × OrthogonalHullIs B H
  room_hull = (has_quarters, quarters_hull)

  -- a block is in it exactly if each of its four quadrants holds a block of the room
  pub hull_quadrants : (H : Panel → Bool) → OrthogonalHullIs B H → (p : Panel) → (H p ≡ true) ↔ Quadrants B p
  hull_quadrants H h p = let e = hull_one h quarters_hull p in (λ i. (quarters_has p).0 (sym e ∙ i), λ q. e ∙ (quarters_has p).1 q)

  -- and it is contained in every unbroken set that contains them, whether there is a test for that set or not
  pub hull_least : (H : Panel → Bool) → OrthogonalHullIs B H → (K : Panel → Type 0) → Contains B K → Unbroken K → Contains (Passing H) K
  hull_least H h K k u p i = quadrants_in B (blocks_connected g some c ds r b) p ((hull_quadrants H h p).0 i) K k u
