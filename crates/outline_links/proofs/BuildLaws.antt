-- The store while a walk is read: from the blank store, step by step, to the whole walk.
-- Assumes nothing.
use Rattle.std.specs.Prelude.{Ok}
use mathlib.Core.Bool.{Bool, true, false, cond}
use mathlib.Core.List.Memᴰ
use mathlib.Core.List.{List, [], ◌∷◌, ◌++◌, Memᴰ}
use mathlib.Core.Logic.{inl, inr, ⊎_elim}
use mathlib.Core.Path.{◌≡◌, refl, ap, sym, ◌∙◌, subst}
use Prim.Native.Nat.{ℕ, zero, suc, ◌+◌, ◌*◌, ◌<◌, ◌≤◌}
use native.Mathlib.Numerals.{add-one}
use native.Mathlib.Omega.{arith}
use borrow.Author.Tests.{eq-eqb, lt-ltb, le-ltb, ltb-true, ltb-false}
use lib.Dec.{ltb}
use lib.ListN.{length, get_or, set, take, length-map, length-set}
use lib.Seq.{take-suc, take-suc-set, take-length, length-take-le}
use Rattle.answer.specs.Limits.{most_steps}
use Rattle.lists.proofs.DistinctLaws.{mem_get_d}
use Rattle.grid.specs.declared.Corner.{Corner}
use Rattle.grid.specs.Grid.{origin, stepped, corners_from, end_from}
use Rattle.grid.proofs.StepLaws.{end_from_snoc, end_from-mem, corners_from_snoc, length-corners_from}
use Rattle.trace.specs.Meeting.{visited_of}
use Rattle.trace.proofs.VisitLaws.{visited_mem, length_visited_le}
use Rattle.outline_laws.specs.Keys.{key_of, key_after, column_rows}
use Rattle.outline_laws.specs.Links.{Linked}
use Rattle.outline_laws.proofs.HomeLaws.{home_one}
use Rattle.outline_laws.proofs.KeyLaws.{Close, corner_close, key_start, key_step, key_begins, key_small, key_large, end_close}
use Rattle.outline_laws.proofs.LinkLaws.{ws_visited, ws-old, ws-more}
use Rattle.outline_roster.specs.Tree.{seek_from}
use Rattle.outline_links.specs.Store.{RoomForMore, StepLinked}
use Rattle.outline_links.specs.Built.{Blank, WalkStored, Least, Built}
use Rattle.outline_links.proofs.StoreLaws.{store_step}

-- what stays true of the store's sizes
pub record Sized (chain keys links : List ℕ) : Type 0 where
  pub digits : (i : ℕ) → get_or chain i 0 < 4
  pub room : length chain < length keys
  pub small : length keys ≤ suc most_steps
  pub words : length links ≡ 4 * length keys

-- the first i steps are in the store
pub record Building (c : Corner) (chain keys kids links : List ℕ) (k least home used node i : ℕ) : Type 0 where
  pub sized : Sized chain keys links
  pub within : i ≤ length chain
  pub store : WalkStored c (take i chain) keys kids links used node
  pub key : k ≡ key_of c (end_from c (take i chain))
  pub low : Least c (take i chain) home least

module _ (c : Corner) (chain keys kids links : List ℕ) (b : Blank chain keys kids links) where
  store_start : WalkStored c [] (set keys 0 536903680) kids links 1 0
  store_start = record {
    tree = record {
      some = omega arith;
      room = omega (arith, length-set keys 0 536903680, b.room);
      pairs = b.pairs ∙ ap (λ (n : ℕ). 2 * n) (sym (length-set keys 0 536903680));
      deeper = λ l h. absurd (omega (arith, h, b.childless l));
      found = only;
    };
    keyed = take-suc-set keys 0 536903680 (omega (arith, b.room)) ∙ ap (λ (n : ℕ). n ∷ []) (sym (key_start c));
    linked = record { link = λ i d h g. b.linkless (4 * i + d); blank = λ l h. b.linkless l };
    there = omega arith;
    here = refl;
  }
    where
      at : (x : ℕ) → get_or (set keys 0 536903680) 0 0 ≡ x → seek_from 1 (set keys 0 536903680) kids x 0 x ≡ Ok 0
      at x e = rw (eq-eqb (get_or (set keys 0 536903680) 0 0) x e, seek_from)

      only : (j : ℕ) → j < 1 → seek_from 1 (set keys 0 536903680) kids (get_or (set keys 0 536903680) j 0) 0 (get_or (set keys 0 536903680) j 0) ≡ Ok j
      only zero h = at (get_or (set keys 0 536903680) 0 0) refl
      only (suc j) h = absurd (omega arith)

  pub building_start : Building c chain (set keys 0 536903680) kids links 536903680 536903680 0 1 0 0
  building_start = record {
    sized = record { digits = b.digits; room = omega (arith, length-set keys 0 536903680, b.room); small = omega (arith, length-set keys 0 536903680, b.small); words = b.words ∙ ap (λ (n : ℕ). 4 * n) (sym (length-set keys 0 536903680)) };
    within = omega arith;
    store = store_start;
    key = sym (key_start c);
    low = record { number = omega arith; its = sym (key_start c); most = λ q m. omega (arith, key_start c, ap (key_of c) (Memᴰ.eq_of_singleton m)) };
  }

-- the least key, with one corner more
module _ (c : Corner) (ds : List ℕ) (d : ℕ) (hd : d < 4) (keys kids links : List ℕ) (used node : ℕ) (s : WalkStored c (ds ++ (d ∷ [])) keys kids links used node) (home least k : ℕ) (ek : k ≡ key_of c (stepped d (end_from c ds))) (w : Least c ds home least) where
  abbrev vs' : List Corner
  vs' = visited_of (corners_from c (ds ++ (d ∷ [])))

  count' : used ≡ length vs'
  count' = sym (length-take-le used keys s.tree.room) ∙ ap length s.keyed ∙ length-map vs' (key_of c)

  corners : (m : ℕ) → ((q : Corner) → Memᴰ q (corners_from c ds) → m ≤ key_of c q) → m ≤ k → (q : Corner) → Memᴰ q (corners_from c (ds ++ (d ∷ []))) → m ≤ key_of c q
  corners m f h q n =
      ⊎_elim (f q) (λ e. omega (arith, ek, h, ap (key_of c) (Memᴰ.eq_of_singleton e))) (Memᴰ.append_cases (corners_from c ds) (subst (Memᴰ q) (corners_from_snoc c ds d) n))

  least_step : Least c (ds ++ (d ∷ [])) (cond (ltb k least) node home) (cond (ltb k least) k least)
  least_step = go (ltb k least) refl
    where
      kept : get_or vs' home origin ≡ get_or (visited_of (corners_from c ds)) home origin
      kept = ap (λ (l : List Corner). get_or l home origin) (ws_visited c ds d hd) ∙ ws-old c ds d hd home w.number

      go : (b : Bool) → ltb k least ≡ b → Least c (ds ++ (d ∷ [])) (cond (ltb k least) node home) (cond (ltb k least) k least)
      go true e = rw e (record {
        number = omega (arith, s.there, count');
        its = ek ∙ ap (key_of c) (sym (s.here ∙ end_from_snoc c ds d));
        most = corners k (λ q m. omega (arith, ltb-true k least e, w.most q m)) (omega arith);
      })
      go false e = rw e (record {
        number = omega (arith, w.number, ws-more c ds d hd, ap length (ws_visited c ds d hd));
        its = w.its ∙ ap (key_of c) (sym kept);
        most = corners least w.most (omega (arith, ltb-false k least e));
      })

module _ (c : Corner) (chain keys kids links : List ℕ) (k least home used node i : ℕ) (b : Building c chain keys kids links k least home used node i) (h : i < length chain) where
  abbrev ds : List ℕ
  ds = take i chain

  abbrev d : ℕ
  d = get_or chain i 0

  next-take : take (suc i) chain ≡ ds ++ (d ∷ [])
  next-take = take-suc chain i 0 h

  length-ds : length ds ≡ i
  length-ds = length-take-le i chain (omega arith)

  short : i < most_steps
  short = omega (arith, b.sized.room, b.sized.small)

  -- the key has space on every side
  pub building_key : (column_rows ≤ k) × (k < column_rows * column_rows)
  building_key = (
    omega (arith, b.key, key_large (0 + length ds) c (end_from c ds) (omega (arith, length-ds, short)) (end_close c ds)),
    omega (arith, b.key, key_small c (end_from c ds) (corner_close c ds (end_from c ds) (omega (arith, length-ds, short)) (end_from-mem c ds))),
  )

  -- the store is large enough for one corner more
  pub building_ready : RoomForMore keys kids links used node
  building_ready = record {
    tree = b.store.tree;
    room = omega (arith, count, length_visited_le (corners_from c ds), length-corners_from c ds, length-ds, b.sized.room);
    there = b.store.there;
    words = b.sized.words;
    small = b.sized.small;
  }
    where
      count : used ≡ length (visited_of (corners_from c ds))
      count = sym (length-take-le used keys b.store.tree.room) ∙ ap length b.store.keyed ∙ length-map (visited_of (corners_from c ds)) (key_of c)

  module _ (k' : ℕ) (ek : k' ≡ key_after k d) (keys' kids' links' : List ℕ) (node' used' : ℕ) (a : StepLinked keys kids links used node k' d keys' kids' links' node' used') where
    ek' : k' ≡ key_of c (stepped d (end_from c ds))
    ek' = ek ∙ ap (λ (x : ℕ). key_after x d) b.key ∙ sym (key_step (0 + length ds) d c (end_from c ds) (omega (arith, length-ds, short)) (end_close c ds))

    sizes : (length keys' ≡ length keys) × (length links' ≡ length links)
    sizes = by a
      where
        by : StepLinked keys kids links used node k' d keys' kids' links' node' used' → (length keys' ≡ length keys) × (length links' ≡ length links)
        by (inl x) = (ap length x.same.0, ap length x.same.2)
        by (inr x) = (x.seated.same, ap length x.words ∙ simp length-set)

    stored : WalkStored c (ds ++ (d ∷ [])) keys' kids' links' used' node'
    stored = store_step c ds d (b.sized.digits i) (omega (arith, length-ds, short)) keys kids links used node b.store b.sized.words k' ek' keys' kids' links' node' used' a

    building_step : Building c chain keys' kids' links' k' (cond (ltb k' least) k' least) (cond (ltb k' least) node' home) used' node' (suc i)
    building_step = record {
      sized = record { digits = b.sized.digits; room = omega (arith, sizes.0, b.sized.room); small = omega (arith, sizes.0, b.sized.small); words = omega (arith, sizes.0, sizes.1, b.sized.words) };
      within = omega arith;
      store = subst (λ (l : List ℕ). WalkStored c l keys' kids' links' used' node') (sym next-take) stored;
      key = ek' ∙ ap (key_of c) (sym (ap (end_from c) next-take ∙ end_from_snoc c ds d));
      low = subst (λ (l : List ℕ). Least c l (cond (ltb k' least) node' home) (cond (ltb k' least) k' least)) (sym next-take) (least_step c ds d (b.sized.digits i) keys' kids' links' used' node' stored home least k' ek' b.low);
    }

-- one of two numbers, as the code has chosen it
pub first_of : (k least b : ℕ) {a x : ℕ} → k < least → x ≡ a → x ≡ cond (ltb k least) a b
first_of k least b {a} h e = e ∙ sym (ap (λ (t : Bool). cond t a b) (lt-ltb k least h))

pub second_of : (k least a : ℕ) {b x : ℕ} → least ≤ k → x ≡ b → x ≡ cond (ltb k least) a b
second_of k least a {b} h e = e ∙ sym (ap (λ (t : Bool). cond t a b) (le-ltb k least h))

-- the same with what the code has at the end of a turn
pub building_next : (c : Corner) (chain keys kids links : List ℕ) (k least home used node i : ℕ) → Building c chain keys kids links k least home used node i → i < length chain → {k' : ℕ} → k' ≡ key_after k (get_or chain i 0)
    → {keys' kids' links' : List ℕ} {node' used' : ℕ} → StepLinked keys kids links used node k' (get_or chain i 0) keys' kids' links' node' used' → {least' home' : ℕ} → least' ≡ cond (ltb k' least) k' least → home' ≡ cond (ltb k' least) node' home
    → Building c chain keys' kids' links' k' least' home' used' node' (i + 1)
building_next c chain keys kids links k least home used node i b h {k'} ek {keys'} {kids'} {links'} {node'} {used'} a {least'} {home'} el eh =
    rw (el, eh, add-one i) (building_step c chain keys kids links k least home used node i b h k' ek keys' kids' links' node' used' a)

-- the whole walk
pub building_end : (c : Corner) (chain keys kids links : List ℕ) (k least home used node i : ℕ) → Building c chain keys kids links k least home used node i → length chain ≤ i → Built c chain links home
building_end c chain keys kids links k least home used node i b h = record {
  linked = subst (λ (l : List ℕ). Linked c l links) all b.store.linked;
  number = low.number;
  lowest = sym (home_one c chain (get_or vs home origin) (visited_mem (corners_from c chain) (mem_get_d vs home origin low.number)) (λ q m. key_begins c (get_or vs home origin) q (near (get_or vs home origin) (visited_mem (corners_from c chain) (mem_get_d vs home origin low.number))) (near q m) (omega (arith, low.its, low.most q m))));
}
  where
    all : take i chain ≡ chain
    all = let e : i ≡ length chain = omega (arith, b.within, h) in ap (λ (n : ℕ). take n chain) e ∙ take-length chain

    low : Least c chain home least
    low = subst (λ (l : List ℕ). Least c l home least) all b.low

    vs : List Corner
    vs = visited_of (corners_from c chain)

    near : (q : Corner) → Memᴰ q (corners_from c chain) → Close most_steps c q
    near q m = corner_close c chain q (omega (arith, b.sized.room, b.sized.small)) m
