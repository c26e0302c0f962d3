-- The most records that an operation changes: the last of 2 ^ n steps east from (2 ^ n, 2 ^ n) makes a link at every level.
-- Assumes nothing.
use Rattle.std.specs.Prelude.{Ok}
use mathlib.Core.Bool.{Bool, true, false, cond, ◌||◌}
use mathlib.Core.List.{List, [], ◌∷◌, ◌++◌, append_assoc, append-nil}
use mathlib.Core.Logic.{◌⊎◌, inl, inr, ⊎_elim}
use mathlib.Core.Path.{◌≡◌, refl, ap, ap₂, sym, ◌∙◌, subst}
use Prim.Native.Nat.{ℕ, zero, suc, ◌+◌, ◌-◌, ◌*◌, ◌/◌, ◌%◌, ◌^◌, ◌<◌, ◌≤◌}
use native.Mathlib.Omega.{arith}
use native.Mathlib.Decide.{dec_lt, ℕ_discrete}
use native.Mathlib.Nat.{pow-succ', pow-le-pow_right}
use lib.IntN.{ℤ, pos, nat_abs}
use lib.ListN.{length, take, get_or, replicate, length-append, length-replicate}
use Rattle.answer.specs.Answers.{Answer}
use Rattle.answer.specs.declared.Facts.{Facts}
use Rattle.answer.specs.Limits.{most_steps}
use Rattle.grid.specs.declared.Corner.{Corner}
use Rattle.grid.specs.Grid.{corner, same, stepped, joins, corners_from, end_from}
use Rattle.grid.specs.Tree.{root, half_of, parent_of, is_root, size_of}
use Rattle.grid.proofs.CornerLaws.{same_sound}
use Rattle.grid.proofs.JoinLaws.{joins_cases}
use Rattle.grid.proofs.PathLaws.{size_of-parent_of}
use Rattle.grid.proofs.StepLaws.{length-corners_from}
use Rattle.lists.proofs.BoolLaws.{is_false}
use Rattle.tree.specs.Nodes.{links}
use Rattle.tree_laws.specs.State.{State, state_of, links_up, is_fresh, but, risen_by}
use Rattle.tree_laws.proofs.LaterLaws.{later-none}
use Rattle.tree_laws.proofs.LineageLaws.{links-left, links-right, links_step}
use Rattle.tree_laws.proofs.PushLaws.{push_state, sound_walk}
use Rattle.tree_laws.proofs.RiseLaws.{up_goes, risen_up, risen_top}
use Rattle.table_laws.proofs.ChangeLaws.{rooted}
use Rattle.table_laws.proofs.DiffLaws.{walk_changes}
use Rattle.layout.specs.Marks.{mark_words, changes_of}
use Rattle.layout.specs.Table.{width, records_in}
use Rattle.steps.specs.Operations.{survivors_from, survivors}
use Rattle.walk.specs.Walk.{facts_of, WalkIs}
use Rattle.trace.proofs.VisitLaws.{length_visited_le}
use Rattle.demands.specs.Moments.{steps_after, nodes_after, changes_at}
use Rattle.demands.specs.Given.{HasRecords, Faultless}
use Rattle.demands.specs.Given as goal
use Rattle.demands.proofs.AcceptedLaws.{its-mark}
use Rattle.demands.proofs.AloneLaws.{few_steps, four_and_start}
use Rattle.demands.proofs.WalkLaws.{accepted_when}

-- ---- corners with another x or another y are not the same
x_differs : (a b : Corner) → (nat_abs a.0 ≡ nat_abs b.0 → ⊥) → same a b ≡ false
x_differs a b f = is_false (same a b) (λ e. f (ap (λ (c : Corner). nat_abs c.0) (same_sound a b e)))

y_differs : (a b : Corner) → (nat_abs a.1 ≡ nat_abs b.1 → ⊥) → same a b ≡ false
y_differs a b f = is_false (same a b) (λ e. f (ap (λ (c : Corner). nat_abs c.1) (same_sound a b e)))

-- ---- a step to no power of 2 makes no link to one
abbrev NoPower : ℕ → Type 0
NoPower b = (i : ℕ) → b ≡ 2 ^ i → ⊥

-- the ends of such a step at some level: they are one, or the second is one farther and no power of 2
abbrev Plain : ℕ → ℕ → Type 0
Plain a b = (b ≡ a) ⊎ ((b ≡ suc a) × NoPower b)

plain_half : (a b : ℕ) → Plain a b → Plain (a / 2) (b / 2)
plain_half a b (inl e) = inl (ap (λ (n : ℕ). n / 2) e)
plain_half a b (inr h) =
    elim (ℕ_discrete (b % 2) 0) [
      | yes z ↦ inr (omega (arith, h.0), λ i e. h.1 (suc i) (omega (arith, e, pow-succ' 2 i)))
      | no o ↦ inl (omega (arith, h.0))
    ]

power_up : (m : ℕ) → 0 < 2 ^ m
power_up zero = omega arith
power_up (suc m) = omega (arith, power_up m, pow-succ' 2 m)

power_le : (i j : ℕ) → i ≤ j → 2 ^ i ≤ 2 ^ j
power_le i j h = pow-le-pow_right (omega arith) h

-- there is none between a power of 2 and the next
between : (n b : ℕ) → 2 ^ n < b → b < 2 ^ suc n → NoPower b
between n b l h i e = elim (dec_lt n i) [ yes g ↦ omega (arith, e, h, power_le (suc n) i (omega arith)) | no g ↦ omega (arith, e, l, power_le i n (omega (arith, g))) ]

module _ (m : ℕ) (y : ℤ) where
  abbrev p : Corner
  p = corner (pos (2 ^ m - 1)) y

  abbrev q : Corner
  q = corner (pos (2 ^ m)) y

  one_up : 0 < 2 ^ m
  one_up = power_up m

  no_join : (a b : ℕ) (w : ℤ) → Plain a b → joins p q (corner (pos a) w, corner (pos b) w) ≡ false
  no_join a b w h = is_false (joins p q (corner (pos a) w, corner (pos b) w)) (λ e. ⊎_elim there back' (joins_cases p q (corner (pos a) w) (corner (pos b) w) e))
    where
      x : (c d : Corner) → c ≡ d → nat_abs c.0 ≡ nat_abs d.0
      x c d = ap (λ (z : Corner). nat_abs z.0)

      there : (corner (pos a) w ≡ p) × (corner (pos b) w ≡ q) → ⊥
      there t =
          let ea : a ≡ 2 ^ m - 1 = x (corner (pos a) w) p t.0 in
          let eb : b ≡ 2 ^ m = x (corner (pos b) w) q t.1 in
          ⊎_elim (λ s. omega (arith, ea, eb, s, one_up)) (λ s. s.1 m eb) h

      back' : (corner (pos a) w ≡ q) × (corner (pos b) w ≡ p) → ⊥
      back' t =
          let ea : a ≡ 2 ^ m = x (corner (pos a) w) q t.0 in
          let eb : b ≡ 2 ^ m - 1 = x (corner (pos b) w) p t.1 in
          ⊎_elim (λ s. omega (arith, ea, eb, s, one_up)) (λ s. omega (arith, ea, eb, s.0, one_up)) h

  no_link : (k a b : ℕ) (w : ℤ) → size_of (corner (pos a) w) < k → Plain a b → links p q (corner (pos a) w, corner (pos b) w) ≡ false
  no_link zero a b w s h = absurd (omega arith)
  no_link (suc k) a b w s h = go (is_root u) refl (is_root v) refl (λ l. no_link k (a / 2) (b / 2) (half_of w) l (plain_half a b h))
    where
      u : Corner
      u = corner (pos a) w

      v : Corner
      v = corner (pos b) w

      go : (c : Bool) → is_root u ≡ c → (d : Bool) → is_root v ≡ d → (size_of (parent_of u) < k → links p q (parent_of u, parent_of v) ≡ false) → links p q (u, v) ≡ false
      go true e d f ih = links-left p q u v e ∙ no_join a b w h
      go false e true f ih = links-right p q u v f ∙ no_join a b w h
      go false e false f ih = links_step p q u v e f ∙ ap₂ ◌||◌ (no_join a b w h) (ih (omega (arith, size_of-parent_of u e, s)))

-- ---- steps east
abbrev east : ℕ → List ℕ
east k = replicate k 0

east_end : (k x : ℕ) (y : ℤ) → end_from (corner (pos x) y) (east k) ≡ corner (pos (x + k)) y
east_end zero x y = let e : x ≡ x + 0 = omega arith in ap (λ (n : ℕ). corner (pos n) y) e
east_end (suc k) x y = let e : suc x + k ≡ x + suc k = omega arith in east_end k (suc x) y ∙ ap (λ (n : ℕ). corner (pos n) y) e

east_snoc : (k : ℕ) → east (suc k) ≡ east k ++ (0 ∷ [])
east_snoc zero = refl
east_snoc (suc k) = ap (λ (l : List ℕ). 0 ∷ l) (east_snoc k)

-- ---- the levels of the last step: x is 2 ^ j and one less, and y half of it
abbrev row_at : ℕ → ℕ
row_at zero = 0
row_at (suc i) = 2 ^ i

row_half : (i : ℕ) → 2 ^ i / 2 ≡ row_at i
row_half zero = refl
row_half (suc i) = omega (arith, pow-succ' 2 i)

abbrev low : ℕ → Corner
low j = p j (pos (row_at j))

abbrev high : ℕ → Corner
high j = q j (pos (row_at j))

low_up : (i : ℕ) → parent_of (low (suc i)) ≡ low i
low_up i =
    let e : (2 ^ suc i - 1) / 2 ≡ 2 ^ i - 1 = omega (arith, pow-succ' 2 i, power_up i) in
    ap₂ (λ (x y : ℕ). corner (pos x) (pos y)) e (row_half i)

high-up : (i : ℕ) → parent_of (high (suc i)) ≡ high i
high-up i =
    let e : 2 ^ suc i / 2 ≡ 2 ^ i = omega (arith, pow-succ' 2 i) in
    ap₂ (λ (x y : ℕ). corner (pos x) (pos y)) e (row_half i)

low-high : (j : ℕ) → stepped 0 (low j) ≡ high j
low-high j = let e : suc (2 ^ j - 1) ≡ 2 ^ j = omega (arith, power_up j) in ap (λ (x : ℕ). corner (pos x) (pos (row_at j))) e

row_rises : (i : ℕ) → row_at i < row_at (suc i)
row_rises zero = omega arith
row_rises (suc i) = omega (arith, pow-succ' 2 i, power_up i)

module _ (L : Corner → Corner → ℕ) (ns : List Corner) (rooted : (e : Corner) → is_fresh ns e ≡ true → is_root e ≡ false) (none : (j : ℕ) → L (low j) (high j) ≡ 0) where
  single : (a b : Corner) → same a b ≡ false → length (but a b) ≡ 1
  single a b e = ap (λ (c : Bool). length (cond c [] (a ∷ []))) e

  not_root : (c : Corner) → 0 < nat_abs c.1 → is_root c ≡ false
  not_root c h = y_differs c root (λ e. omega (arith, e, h))

  all-levels : (j k : ℕ) → size_of (low j) < k → length (risen_by L ns k (low j) (high j)) ≡ 2 * j
  all-levels j zero h = absurd (omega arith)
  all-levels zero (suc k) h = ap length (risen_top L ns rooted k (low 0) (high 0) refl) ∙ top (is_fresh ns (high 0))
    where
      top : (b : Bool) → length (cond b (but (parent_of (high 0)) (low 0)) []) ≡ 2 * 0
      top true = refl
      top false = refl
  all-levels (suc i) (suc k) h =
      let a = low (suc i) in
      let e = high (suc i) in
      let ra : is_root a ≡ false = not_root a (omega (arith, row_rises i)) in
      let re : is_root e ≡ false = not_root e (omega (arith, row_rises i)) in
      let differ : same (parent_of a) (parent_of e) ≡ false = ap₂ same (low_up i) (high-up i) ∙ x_differs (low i) (high i) (λ z. omega (arith, z, power_up i)) in
      let free : L (parent_of a) (parent_of e) ≡ 0 = ap₂ L (low_up i) (high-up i) ∙ none i in
      let up : links_up L a e ≡ true = up_goes L a e ra re differ free in
      let pa : same (parent_of a) e ≡ false = ap (λ (c : Corner). same c e) (low_up i) ∙ y_differs (low i) e (λ z. omega (arith, z, row_rises i)) in
      let pe : same (parent_of e) a ≡ false = ap (λ (c : Corner). same c a) (high-up i) ∙ y_differs (high i) a (λ z. omega (arith, z, row_rises i)) in
      let l = risen_by L ns k (parent_of a) (parent_of e) in
      let ih : length l ≡ 2 * i = ap₂ (λ (x y : Corner). length (risen_by L ns k x y)) (low_up i) (high-up i) ∙ all-levels i k (omega (arith, h, size_of-parent_of a ra, ap size_of (low_up i))) in
      omega (
        arith,
        ap length (risen_up L ns rooted k a e up),
        length-append (but (parent_of a) e) (but (parent_of e) a ++ l),
        length-append (but (parent_of e) a) l,
        single (parent_of a) e pa,
        single (parent_of e) a pe,
        ih,
      )

-- ---- 2 ^ n steps east from (2 ^ n, 2 ^ n)
module _ (n : ℕ) where
  abbrev far : Corner
  far = corner (pos (2 ^ n)) (pos (2 ^ n))

  abbrev linked_at : ℕ → Corner → Corner → ℕ
  linked_at k = (state_of (corners_from far (east k))).step

  -- before the last of them no node has a link to one whose x is a power of 2
  unlinked : (m : ℕ) (y : ℤ) (k : ℕ) → k < 2 ^ n → linked_at k (p m y) (q m y) ≡ 0
  unlinked m y zero h = refl
  unlinked m y (suc k) h =
      let ds = east k in
      let a = end_from far ds in
      let e = stepped 0 a in
      let s = suc (length ds) in
      let ea : a ≡ corner (pos (2 ^ n + k)) (pos (2 ^ n)) = east_end k (2 ^ n) (pos (2 ^ n)) in
      let apart : p m y ≡ q m y → ⊥ = λ z. omega (arith, ap (λ (c : Corner). nat_abs c.0) z, power_up m) in
      let no : links (p m y) (q m y) (a, e) ≡ false = ap (λ (c : Corner). links (p m y) (q m y) (c, stepped 0 c)) ea ∙ no_link m y (suc (size_of (corner (pos (2 ^ n + k)) (pos (2 ^ n))))) (2 ^ n + k) (suc (2 ^ n + k)) (pos (2 ^ n)) (omega arith) (inr (refl, between n (suc (2 ^ n + k)) (omega arith) (omega (arith, h, pow-succ' 2 n)))) in
      ap (λ (l : List ℕ). (state_of (corners_from far l)).step (p m y) (q m y)) (east_snoc k)
      ∙ (push_state far ds 0).step (p m y) (q m y) apart
      ∙ later-none (linked_at k (p m y) (q m y)) (links (p m y) (q m y) (a, e)) s no
      ∙ unlinked m y k (omega arith)

  far-changes : changes_of far (east (2 ^ n - 1)) (east (2 ^ n - 1) ++ (0 ∷ [])) ≡ 2 * n + 4
  far-changes =
      let ds = east (2 ^ n - 1) in
      let S : State = state_of (corners_from far ds) in
      let a = end_from far ds in
      let ea : a ≡ low (suc n) = east_end (2 ^ n - 1) (2 ^ n) (pos (2 ^ n)) ∙ (let x : 2 ^ n + (2 ^ n - 1) ≡ 2 ^ suc n - 1 = omega (arith, pow-succ' 2 n, power_up n) in ap (λ (z : ℕ). corner (pos z) (pos (2 ^ n))) x) in
      let k = suc (size_of (low (suc n))) in
      let ground = rooted S (sound_walk far ds) (suc (length ds)) 0 (omega arith) (omega arith) in
      let r : length (risen_by S.step S.nodes k a (stepped 0 a)) ≡ 2 * suc n = ap₂ (λ (x y : Corner). length (risen_by S.step S.nodes k x y)) ea (ap (stepped 0) ea ∙ low-high (suc n)) ∙ all-levels S.step S.nodes ground (λ j. unlinked j (pos (row_at j)) (2 ^ n - 1) (omega (arith, power_up n))) (suc n) k (omega arith) in
      walk_changes far ds 0 (omega arith) k (omega (arith, ap size_of ea)) ∙ omega (arith, r)

-- of the operations
take-east : (k j : ℕ) → k ≤ j → take k (east j) ≡ east k
take-east zero j h = refl
take-east (suc k) zero h = absurd (omega arith)
take-east (suc k) (suc j) h = ap (λ (l : List ℕ). 0 ∷ l) (take-east k j (omega arith))

survives : (s : List ℕ) (k : ℕ) → survivors_from s (east k) ≡ s ++ east k
survives s zero = sym (append-nil s)
survives s (suc k) = survives (s ++ (0 ∷ [])) k ∙ append_assoc s (0 ∷ []) (east k)

after-east : (k j : ℕ) → k ≤ j → steps_after (east j) k ≡ east k
after-east k j h = ap survivors (take-east k j h) ∙ survives [] k

digit_east : (j i : ℕ) → get_or (east j) i 0 ≡ 0
digit_east zero i = refl
digit_east (suc j) zero = refl
digit_east (suc j) (suc i) = digit_east j i

module _ (n : ℕ) (few : 2 ^ n ≤ most_steps) where
  abbrev j : ℕ
  j = 2 ^ n

  abbrev last : ℕ
  last = 2 ^ n - 1

  size : length (east j) ≡ j
  size = length-replicate j 0

  reached : changes_at (far n) (east j) last ≡ 2 * n + 4
  reached =
      let h : suc last ≤ j = omega (arith, power_up n) in
      ap₂ (changes_of (far n)) (after-east last j (omega arith)) (after-east (suc last) j h ∙ east_snoc last) ∙ far-changes n

  -- the call takes them
  east_sound : (words marks chain : ℕ) → HasRecords words → marks ≡ mark_words * j → chain ≡ j → Faultless (far n) (east j) words marks chain
  east_sound words marks chain r m c = record {
    sized = record { few = omega (arith, size); table = r; room = (m ∙ ap (λ (k : ℕ). mark_words * k) (sym size), c ∙ sym size); start = (omega arith, omega arith) };
    fine = λ i h.
        let e : length (steps_after (east j) i) ≡ i = ap length (after-east i j (omega (arith, h, size))) ∙ length-replicate i 0 in
        inr (omega (arith, digit_east j i), omega (arith, e, h, size));
  }

  reached_call : {t ms ch t' ms' ch' : List ℕ} {r : Answer} → WalkIs (far n) (east j) t ms ch r t' ms' ch' → length t ≡ 65604 * width → length ms ≡ mark_words * j → length ch ≡ j
      → (f : Facts) × (r ≡ Ok f) × (get_or ms' (mark_words * last + 2) 0 ≡ 2 * n + 4)
  reached_call {t} {ms} {ch} {t'} {ms'} {ch'} {r} w lt lm lc =
      let fl = east_sound (length t) (length ms) (length ch) (65604, omega arith, omega arith, lt) lm lc in
      let room : (k : ℕ) → k ≤ length (east j) → nodes_after (far n) (east j) k ≤ records_in (length t) = λ k h.
      let s = steps_after (east j) k in
      omega (arith, lt, four_and_start fl k h, few_steps fl k h, length_visited_le (corners_from (far n) s), length-corners_from (far n) s) in
      let f = facts_of (far n) (survivors (east j)) in
      let e : r ≡ Ok f = (accepted_when w).1 (goal.accepted fl room) in
      let v : WalkIs (far n) (east j) t ms ch (Ok f) t' ms' ch' = subst (λ (x : Answer). WalkIs (far n) (east j) t ms ch x t' ms' ch') e w in
      (f, e, (its-mark v last (omega (arith, size, power_up n))).2 ∙ reached)

pub sixteen_thousand : {t ms ch t' ms' ch' : List ℕ} {r : Answer} → WalkIs (corner (pos 16384) (pos 16384)) (replicate 16384 0) t ms ch r t' ms' ch' → length t ≡ 65604 * width → length ms ≡ mark_words * 16384 → length ch ≡ 16384
    → (f : Facts) × (r ≡ Ok f) × (get_or ms' (mark_words * 16383 + 2) 0 ≡ 32)
sixteen_thousand = reached_call 14 (omega arith)
