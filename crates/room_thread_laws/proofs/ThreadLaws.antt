-- Threading place after place, and following a column back.
-- Assumes nothing.
use mathlib.Core.Path.{◌≡◌, refl, sym, ap, ◌∙◌, subst}
use mathlib.Core.Bool.{Bool, true, false, true≢false, false≢true}
use mathlib.Core.List.{List}
use mathlib.Core.Logic.{◌⊎◌, inl, inr, ⊎_elim}
use Prim.Native.Nat.{ℕ, zero, suc, ◌+◌, ◌<◌, ◌≤◌}
use native.Mathlib.Omega.{arith}
use native.Mathlib.Nat.{eq-or-lt_of_le}
use native.Mathlib.Decide.{dec_lt, ℕ_discrete}
use borrow.Author.Tests.{eq-eqb, ne_eqb}
use lib.Dec.{eqb}
use lib.ListN.{length, get_or, set, length-set}
use lib.Seq.{get_or-set_same, get_or-set_other}
use Rattle.room_thread_laws.specs.Threads.{last_in, Threaded, Double, Single, Stamped, Outcome, ThreadFollowed, Following, Parted, Parting}

-- the last place in a column
module _ (xs : List ℕ) (c : ℕ) where
  last_here : (i : ℕ) → get_or xs i 0 ≡ c → last_in xs c (suc i) ≡ suc i
  unfolding last_in
  last_here i e = ap (λ (t : Bool). elim t as (λ x. ℕ) [ true ↦ suc i | false ↦ last_in xs c i ]) (eq-eqb (get_or xs i 0) c e)

  last_other : (i : ℕ) → (get_or xs i 0 ≡ c → ⊥) → last_in xs c (suc i) ≡ last_in xs c i
  unfolding last_in
  last_other i n = ap (λ (t : Bool). elim t as (λ x. ℕ) [ true ↦ suc i | false ↦ last_in xs c i ]) (ne_eqb (get_or xs i 0) c n)

  pub last_le : (i : ℕ) → last_in xs c i ≤ i
  unfolding last_in
  last_le zero = omega arith
  last_le (suc i) = go (eqb (get_or xs i 0) c) (last_le i)
    where
      go : (t : Bool) → last_in xs c i ≤ i → elim t as (λ x. ℕ) [ true ↦ suc i | false ↦ last_in xs c i ] ≤ suc i
      go true h = omega arith
      go false h = omega arith

  -- no place of the column from the last one on
  last_none : (i j : ℕ) → last_in xs c i ≤ j → j < i → get_or xs j 0 ≡ c → ⊥
  unfolding last_in
  last_none zero j h g e = omega arith
  last_none (suc i) j h g e = go (ℕ_discrete (get_or xs i 0) c) (λ l m. last_none i j l m e)
    where
      go : Dec (get_or xs i 0 ≡ c) → (last_in xs c i ≤ j → j < i → ⊥) → ⊥
      go (yes f) r = let z : last_in xs c (suc i) ≡ suc i = last_here i f in omega arith
      go (no f) r = ⊎_elim (λ q. f (subst (λ (m : ℕ). get_or xs m 0 ≡ c) q e)) (λ q. r (omega (arith, last_other i f)) q) (less_or_same j i g)
        where
          less_or_same : (j i : ℕ) → j < suc i → (j ≡ i) ⊎ (j < i)
          less_or_same j i g = eq-or-lt_of_le (omega arith)

  -- the last place is one of the column
  last-at : (i p : ℕ) → last_in xs c i ≡ suc p → (p < i) × (get_or xs p 0 ≡ c)
  unfolding last_in
  last-at zero p e = let z : ⊥ = omega arith in absurd z
  last-at (suc i) p e = go (ℕ_discrete (get_or xs i 0) c) (last-at i p)
    where
      go : Dec (get_or xs i 0 ≡ c) → (last_in xs c i ≡ suc p → (p < i) × (get_or xs p 0 ≡ c)) → (p < suc i) × (get_or xs p 0 ≡ c)
      go (yes f) r = let z : i ≡ p = omega (arith, last_here i f) in (omega arith, subst (λ (m : ℕ). get_or xs m 0 ≡ c) z f)
      go (no f) r = let z = r (sym (last_other i f) ∙ e) in (omega (arith, z.0), z.1)

-- threading one place more
pub thread_step : (xs head next : List ℕ) (i x : ℕ) → x ≡ get_or xs i 0 → x < length head → i < length next → Threaded xs head next i → Threaded xs (set head x (suc i)) (set next i (get_or head x 0)) (suc i)
thread_step xs head next i x e h g t = record { heads = heads; nexts = nexts }
  where
    heads : (c : ℕ) → c < length (set head x (suc i)) → get_or (set head x (suc i)) c 0 ≡ last_in xs c (suc i)
    heads c l = go (ℕ_discrete c x)
      where
        go : Dec (c ≡ x) → get_or (set head x (suc i)) c 0 ≡ last_in xs c (suc i)
        go (yes f) = ap (λ (m : ℕ). get_or (set head x (suc i)) m 0) f ∙ get_or-set_same head x (suc i) 0 h ∙ sym (last_here xs c i (sym e ∙ sym f))
        go (no f) = get_or-set_other head x c (suc i) 0 f ∙ t.heads c (omega (arith, length-set head x (suc i))) ∙ sym (last_other xs c i (λ q. f (sym q ∙ sym e)))

    nexts : (j : ℕ) → j < suc i → get_or (set next i (get_or head x 0)) j 0 ≡ last_in xs (get_or xs j 0) j
    nexts j l = go (ℕ_discrete j i)
      where
        go : Dec (j ≡ i) → get_or (set next i (get_or head x 0)) j 0 ≡ last_in xs (get_or xs j 0) j
        go (yes f) = ap (λ (m : ℕ). get_or (set next i (get_or head x 0)) m 0) f ∙ get_or-set_same next i (get_or head x 0) 0 g ∙ t.heads x h ∙ ap (λ (m : ℕ). last_in xs m i) e ∙ sym (ap (λ (m : ℕ). last_in xs (get_or xs m 0) m) f)
        go (no f) = get_or-set_other next i j (get_or head x 0) 0 f ∙ t.nexts j (omega arith)

-- nothing is threaded yet
pub thread_none : (xs head next : List ℕ) → ((c : ℕ) → get_or head c 0 ≡ 0) → Threaded xs head next 0
unfolding last_in
thread_none xs head next z = record { heads = λ c l. z c; nexts = λ j l. let n : ⊥ = omega arith in absurd n }

-- a column, before it is followed
stamp_none : (xs hs stamps : List ℕ) (n c t : ℕ) → ((h : ℕ) → get_or stamps h 0 < t) → Stamped xs hs stamps n c t n
stamp_none xs hs stamps n c t f = record { seen = seen; marked = λ j l r e. let z : ⊥ = omega arith in absurd z; most = λ h. omega (arith, f h); single = λ j k l m r. let z : ⊥ = omega arith in absurd z }
  where
    seen : (h : ℕ) → get_or stamps h 0 ≡ t → (j : ℕ) × (n ≤ j) × (j < n) × (get_or xs j 0 ≡ c) × (get_or hs j 0 ≡ h)
    seen h e = let z : ⊥ = omega (arith, f h) in absurd z

-- followed back to place b, with place p before it the last of its column
module _ (xs hs stamps : List ℕ) (n c t b p : ℕ) (s : Stamped xs hs stamps n c t b) (le : b ≤ n) (l : last_in xs c b ≡ suc p) where
  inside : p < b
  inside = (last-at xs c b p l).0

  here : get_or xs p 0 ≡ c
  here = (last-at xs c b p l).1

  -- places of the column from p on
  from-p : (j : ℕ) → p ≤ j → get_or xs j 0 ≡ c → (p ≡ j) ⊎ (b ≤ j)
  from-p j h e = ⊎_elim (λ q. inl q) (λ q. inr (past q)) (eq-or-lt_of_le h)
    where
      past : p < j → b ≤ j
      past q = go (dec_lt j b)
        where
          go : Dec (j < b) → b ≤ j
          go (yes r) = absurd (last_none xs c b j (omega arith) r e)
          go (no r) = omega arith

  -- its height bears the stamp: two places have one height
  stamp_double : get_or stamps (get_or hs p 0) 0 ≡ t → Double xs hs n
  stamp_double e = go (s.seen (get_or hs p 0) e)
    where
      go : (j : ℕ) × (b ≤ j) × (j < n) × (get_or xs j 0 ≡ c) × (get_or hs j 0 ≡ get_or hs p 0) → Double xs hs n
      go (j, a, q, f, g) = record { j = p; k = j; earlier = omega (arith, inside); within = q; column = here ∙ sym f; height = sym g }

  -- it does not: it is stamped
  stamp_step : (get_or stamps (get_or hs p 0) 0 ≡ t → ⊥) → get_or hs p 0 < length stamps → Stamped xs hs (set stamps (get_or hs p 0) t) n c t p
  stamp_step new fits = record { seen = seen; marked = marked; most = most; single = single }
    where
      same : get_or (set stamps (get_or hs p 0) t) (get_or hs p 0) 0 ≡ t
      same = get_or-set_same stamps (get_or hs p 0) t 0 fits

      seen : (h : ℕ) → get_or (set stamps (get_or hs p 0) t) h 0 ≡ t → (j : ℕ) × (p ≤ j) × (j < n) × (get_or xs j 0 ≡ c) × (get_or hs j 0 ≡ h)
      seen h e = go (ℕ_discrete h (get_or hs p 0))
        where
          go : Dec (h ≡ get_or hs p 0) → (j : ℕ) × (p ≤ j) × (j < n) × (get_or xs j 0 ≡ c) × (get_or hs j 0 ≡ h)
          go (yes f) = (p, omega arith, omega (arith, inside), here, sym f)
          go (no f) = let z = s.seen h (sym (get_or-set_other stamps (get_or hs p 0) h t 0 f) ∙ e) in (z.0, omega (arith, z.1, inside), z.2, z.3, z.4)

      marked : (j : ℕ) → p ≤ j → j < n → get_or xs j 0 ≡ c → get_or (set stamps (get_or hs p 0) t) (get_or hs j 0) 0 ≡ t
      marked j h r e = go (ℕ_discrete (get_or hs j 0) (get_or hs p 0)) (from-p j h e)
        where
          go : Dec (get_or hs j 0 ≡ get_or hs p 0) → (p ≡ j) ⊎ (b ≤ j) → get_or (set stamps (get_or hs p 0) t) (get_or hs j 0) 0 ≡ t
          go (yes f) q = ap (λ (m : ℕ). get_or (set stamps (get_or hs p 0) t) m 0) f ∙ same
          go (no f) (inl q) = absurd (f (ap (λ (m : ℕ). get_or hs m 0) (sym q)))
          go (no f) (inr q) = get_or-set_other stamps (get_or hs p 0) (get_or hs j 0) t 0 f ∙ s.marked j q r e

      most : (h : ℕ) → get_or (set stamps (get_or hs p 0) t) h 0 ≤ t
      most h = go (ℕ_discrete h (get_or hs p 0))
        where
          go : Dec (h ≡ get_or hs p 0) → get_or (set stamps (get_or hs p 0) t) h 0 ≤ t
          go (yes f) = let z : get_or (set stamps (get_or hs p 0) t) h 0 ≡ t = ap (λ (m : ℕ). get_or (set stamps (get_or hs p 0) t) m 0) f ∙ same in omega arith
          go (no f) = omega (arith, get_or-set_other stamps (get_or hs p 0) h t 0 f, s.most h)

      single : (j k : ℕ) → p ≤ j → j < k → k < n → get_or xs j 0 ≡ c → get_or xs k 0 ≡ c → get_or hs j 0 ≡ get_or hs k 0 → ⊥
      single j k h q r e f g = go (from-p j h e) (from-p k (omega arith) f)
        where
          go : (p ≡ j) ⊎ (b ≤ j) → (p ≡ k) ⊎ (b ≤ k) → ⊥
          go (inl a) (inl d) = omega arith
          go (inl a) (inr d) = new (ap (λ (m : ℕ). get_or stamps m 0) (ap (λ (m : ℕ). get_or hs m 0) a ∙ g) ∙ s.marked k d r f)
          go (inr a) (inl d) = omega arith
          go (inr a) (inr d) = s.single j k a q r e f g

-- followed to its end
stamp_end : (xs hs stamps : List ℕ) (n c t b : ℕ) → Stamped xs hs stamps n c t b → b ≤ n → last_in xs c b ≡ 0 → Single xs hs n c
stamp_end xs hs stamps n c t b s le l j k h r e f g = go (dec_lt j b)
  where
    go : Dec (j < b) → ⊥
    go (yes q) = last_none xs c b j (omega arith) q e
    go (no q) = s.single j k (omega arith) h r e f g

-- following a thread
module _ (next hs before : List ℕ) (t last : ℕ) where
  pub follow_start : Following next hs before t last last before
  follow_start xs n c f e g = (n, omega arith, e, stamp_none xs hs before n c t g)

  module _ (p : ℕ) (stamps : List ℕ) (w : Following next hs before t last p stamps) where
    pub follow_end : p ≡ 0 → ThreadFollowed next hs before t last true stamps
    follow_end z xs n c f e g = let s = w xs n c f e g in record { alone = λ q. stamp_end xs hs stamps n c t s.0 s.3 s.1 (sym s.2 ∙ z); twice = λ q. absurd (true≢false q); most = s.3.most }

    pub follow_twice : (q : ℕ) → p ≡ suc q → get_or stamps (get_or hs q 0) 0 ≡ t → ThreadFollowed next hs before t last false stamps
    follow_twice q z h xs n c f e g = let s = w xs n c f e g in record { alone = λ q. absurd (false≢true q); twice = λ r. stamp_double xs hs stamps n c t s.0 q s.3 s.1 (sym s.2 ∙ z) h; most = s.3.most }

    pub follow_step : (q : ℕ) → p ≡ suc q → (get_or stamps (get_or hs q 0) 0 ≡ t → ⊥) → get_or hs q 0 < length stamps → Following next hs before t last (get_or next q 0) (set stamps (get_or hs q 0) t)
    follow_step q z h l xs n c f e g =
        let s = w xs n c f e g in
        let k : last_in xs c s.0 ≡ suc q = sym s.2 ∙ z in
        let i = last-at xs c s.0 q k in
        (q, omega (arith, i.0, s.1), f q (omega (arith, i.0, s.1)) ∙ ap (λ (m : ℕ). last_in xs m q) i.1, stamp_step xs hs stamps n c t s.0 q s.3 s.1 k h l)

-- following all threads
module _ (head next hs : List ℕ) where
  pub part_start : (stamps : List ℕ) → ((h : ℕ) → get_or stamps h 0 ≡ 0) → Parting head next hs 0 stamps
  part_start stamps z xs n t = ((λ h. omega (arith, z h)), (λ k l. let n : ⊥ = omega arith in absurd n))

  module _ (c : ℕ) (stamps after : List ℕ) (p : Parting head next hs c stamps) (l : c < length head) where
    pub part_step : ThreadFollowed next hs stamps (c + 1) (get_or head c 0) true after → Parting head next hs (c + 1) after
    part_step f xs n t = ((λ h. omega (arith, o.most h)), singles)
      where
        o : Outcome xs hs n c (c + 1) true after
        o = f xs n c t.nexts (t.heads c l) (p xs n t).0

        singles : (k : ℕ) → k < c + 1 → Single xs hs n k
        singles k g = go (ℕ_discrete k c)
          where
            go : Dec (k ≡ c) → Single xs hs n k
            go (yes e) = subst (Single xs hs n) (sym e) (o.alone refl)
            go (no e) = (p xs n t).1 k (omega arith)

    pub part_twice : ThreadFollowed next hs stamps (c + 1) (get_or head c 0) false after → Parted head next hs false
    part_twice f xs n t b = ((λ e. absurd (false≢true e)), (λ e. (f xs n c t.nexts (t.heads c l) (p xs n t).0).twice refl))

  pub part_end : (c : ℕ) (stamps : List ℕ) → Parting head next hs c stamps → length head ≤ c → Parted head next hs true
  part_end c stamps p l xs n t b = ((λ e d. (p xs n t).1 (get_or xs d.k 0) (omega (arith, b d.k d.within)) d.j d.k d.earlier d.within d.column refl d.height), (λ e. absurd (true≢false e)))
