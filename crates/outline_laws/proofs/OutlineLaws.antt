-- Every walk has exactly one outline. It is closed, runs along walked edges, takes no way twice, and has at most two steps for each of the walk's.
-- Assumes nothing.
use mathlib.Core.Bool.{true, false, not, true≢false}
use mathlib.Core.List.Memᴰ
use mathlib.Core.List.{List, [], ◌∷◌, Memᴰ}
use mathlib.Core.Logic.{◌⊎◌, inl, inr, ⊎_elim}
use mathlib.Core.Path.{◌≡◌, refl, ap, sym, ◌∙◌, subst}
use Prim.Native.Nat.{ℕ, zero, suc, ◌+◌, ◌<◌, ◌≤◌, ◌*◌}
use native.Mathlib.Decide.{ℕ_discrete, dec_lt}
use native.Mathlib.Omega.{arith}
use lib.ListN.{length}
use Rattle.lists.specs.Lists.{Distinct, Below, zip}
use Rattle.lists.proofs.GatherLaws.{and_left}
use Rattle.grid.specs.declared.Corner.{Corner}
use Rattle.grid.specs.Grid.{same, stepped, corners_from, end_from}
use Rattle.grid.proofs.CornerLaws.{same_refl, same_sound}
use Rattle.outline.specs.Outline.{home_of, first_way, path_from_home, lacks, is_done, OutlineIs}
use Rattle.outline.specs.Computed.{moment_from, outline_of}
use Rattle.outline_laws.proofs.OrbitLaws.{orbit, orbit_on}
use Rattle.outline_laws.proofs.EdgeLaws.{Way}
use Rattle.outline_laws.proofs.PathLaws.{next, On, next_on, length_path, path_ways}
use Rattle.outline_laws.proofs.RoundLaws.{start, Round, round_of_lem, done_round, not_before}

-- the first of two moments that are both the first is not later
no_later : (c : Corner) (ds es fs : List ℕ) → OutlineIs c ds es → OutlineIs c ds fs → length es < length fs → ⊥
no_later c ds es fs a b l = true≢false (sym (ap (is_done c ds) (sym a.path) ∙ a.done) ∙ b.first (length es) l)

pub outline_is_one : {c : Corner} {ds es fs : List ℕ} → OutlineIs c ds es → OutlineIs c ds fs → es ≡ fs
outline_is_one {c} {ds} {es} {fs} a b = a.path ∙ ap (path_from_home c ds) long ∙ sym b.path
  where
    long : length es ≡ length fs
    long =
        elim (dec_lt (length es) (length fs)) [
          | yes h ↦ absurd (no_later c ds es fs a b h)
          | no h ↦ elim (dec_lt (length fs) (length es)) [ yes g ↦ absurd (no_later c ds fs es b a g) | no g ↦ omega arith ]
        ]

module _ (c : Corner) (ds : List ℕ) where
  -- the path up to the first moment at which it is done
  pub path_is : (n : ℕ) → is_done c ds (path_from_home c ds n) ≡ true → ((k : ℕ) → k < n → is_done c ds (path_from_home c ds k) ≡ false) → OutlineIs c ds (path_from_home c ds n)
  path_is n e f =
      let l : length (path_from_home c ds n) ≡ n = length_path c ds n (home_of c ds) (first_way c ds) in
      record { path = ap (path_from_home c ds) (sym l); done = e; first = λ k h. f k (omega (arith, l, h)) }

  moment_first : (f k n : ℕ) → k ≤ n → n ≤ k + f → is_done c ds (path_from_home c ds n) ≡ true → ((i : ℕ) → i < n → is_done c ds (path_from_home c ds i) ≡ false) → moment_from c ds f k ≡ n
  moment_first zero k n h l e s = omega arith
  moment_first (suc f) k n h l e s =
      elim (ℕ_discrete k n) [
        | yes z ↦ rw (ap (λ (x : ℕ). is_done c ds (path_from_home c ds x)) z ∙ e, moment_from) z
        | no z ↦ rw (s k (omega arith), moment_from) (moment_first f (suc k) n (omega arith) (omega arith) e s)
      ]

  abbrev First : ℕ → Type 0
  First n = (n ≤ 2 * length ds) × (is_done c ds (path_from_home c ds n) ≡ true) × ((k : ℕ) → k < n → is_done c ds (path_from_home c ds k) ≡ false)

  outline_of_path : (n : ℕ) → First n → OutlineIs c ds (outline_of c ds)
  outline_of_path n m = subst (λ (k : ℕ). OutlineIs c ds (path_from_home c ds k)) (sym (moment_first (2 * length ds) 0 n (omega arith) (omega (arith, m.0)) m.1 m.2)) (path_is n m.1 m.2)

-- a walk without steps
pub empty_is : (c : Corner) → OutlineIs c [] []
empty_is c = record { path = refl; done = rw (same_refl c); first = λ k h. absurd (omega arith) }

-- the outline as it is computed is the outline
pub outline_of-is : (c : Corner) (ds : List ℕ) → OutlineIs c ds (outline_of c ds)
outline_of-is c [] = empty_is c
outline_of-is c (d ∷ ds) =
    let r = round_of_lem c (d ∷ ds) (omega arith) in
    outline_of_path c (d ∷ ds) r.0 (r.1.few, done_round c (d ∷ ds) r.0 r.1, not_before c (d ∷ ds) r.0 r.1)

-- it ends when its next way would be the first again
pub outline_round : {c : Corner} {ds es : List ℕ} → OutlineIs c ds es → 0 < length ds → Round c ds (length es)
outline_round {c} {ds} {es} o l =
    let r = round_of_lem c ds l in
    let e : es ≡ path_from_home c ds r.0 = outline_is_one o (path_is c ds r.0 (done_round c ds r.0 r.1) (not_before c ds r.0 r.1)) in
    subst (Round c ds) (sym (ap length e ∙ length_path c ds r.0 (home_of c ds) (first_way c ds))) r.1

pub outline_closed : {c : Corner} {ds es : List ℕ} → OutlineIs c ds es → end_from (home_of c ds) es ≡ home_of c ds
outline_closed {c} {ds} {es} o =
    same_sound (end_from (home_of c ds) es) (home_of c ds) (and_left (same (end_from (home_of c ds) es) (home_of c ds)) (not (lacks c ds (home_of c ds) es)) o.done)

-- the ways of a list of steps from a corner: where each step leaves, and by which direction
abbrev pub ways_of : Corner → List ℕ → List Way
ways_of p es = zip (corners_from p es) es

pub outline_orbit : {c : Corner} {ds es : List ℕ} → OutlineIs c ds es → ways_of (home_of c ds) es ≡ orbit (next c ds) (length es) (start c ds)
outline_orbit {c} {ds} {es} o = ap (ways_of (home_of c ds)) o.path ∙ path_ways c ds (length es) (home_of c ds) (first_way c ds)

-- the walk has no step, and so has the outline; or it goes once round
outline_cases : {c : Corner} {ds es : List ℕ} → OutlineIs c ds es → (es ≡ []) ⊎ Round c ds (length es)
outline_cases {c} {ds} {es} o = go ds o
  where
    go : (ds : List ℕ) → OutlineIs c ds es → (es ≡ []) ⊎ Round c ds (length es)
    go [] o = inl (outline_is_one o (empty_is c))
    go (d ∷ ds) o = inr (outline_round o (omega arith))

-- each way is along a walked edge, in a direction below 4
pub outline_ways : {c : Corner} {ds es : List ℕ} → OutlineIs c ds es → (y : Way) → Memᴰ y (ways_of (home_of c ds) es) → On c ds y
outline_ways {c} {ds} {es} o y m =
    ⊎_elim
    (λ e. absurd (Memᴰ.not-nil (subst (λ (l : List ℕ). Memᴰ y (ways_of (home_of c ds) l)) e m)))
    (λ r. orbit_on (next c ds) (On c ds) (next_on c ds) (length es) (start c ds) r.on (subst (Memᴰ y) (outline_orbit o) m))
    (outline_cases o)

-- no way is taken twice
pub outline_once_way : {c : Corner} {ds es : List ℕ} → OutlineIs c ds es → Distinct (ways_of (home_of c ds) es)
outline_once_way {c} {ds} {es} o =
    ⊎_elim
    (λ e. subst (λ (l : List ℕ). Distinct (ways_of (home_of c ds) l)) (sym e) tt)
    (λ r. subst Distinct (sym (outline_orbit o)) r.once)
    (outline_cases o)

pub outline_short : {c : Corner} {ds es : List ℕ} → OutlineIs c ds es → length es ≤ 2 * length ds
outline_short {c} {ds} {es} o = ⊎_elim (λ e. omega (arith, ap length e)) (λ r. r.few) (outline_cases o)

below_ways : (p : Corner) (es : List ℕ) → ((y : Way) → Memᴰ y (ways_of p es) → y.1 < 4) → Below 4 es
below_ways p [] f = tt
below_ways p (e ∷ es) f = (f (p, e) (Memᴰ.head refl), below_ways (stepped e p) es (λ y m. f y (Memᴰ.tail m)))

pub outline_below : {c : Corner} {ds es : List ℕ} → OutlineIs c ds es → Below 4 es
outline_below {c} {ds} {es} o = below_ways (home_of c ds) es (λ y m. (outline_ways o y m).0)
