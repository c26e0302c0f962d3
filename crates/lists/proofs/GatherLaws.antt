-- What `gather` gives: the first list and then more, no element twice, and the elements of both lists.
-- Assumes nothing.
use mathlib.Core.Bool.{Bool, true, false, ◌||◌, true≢false, false≢true, ◌&&◌}
use mathlib.Core.List.Memᴰ
use mathlib.Core.List.{List, [], ◌∷◌, ◌++◌, append-nil, append_assoc, Memᴰ}
use mathlib.Core.Logic.{◌⊎◌, inl, inr, ⊎_map, ⊎_elim}
use mathlib.Core.Path.{◌≡◌, refl, ap, sym, ◌∙◌}
use Prim.Native.Nat.{◌+◌, ◌≤◌}
use native.Mathlib.Omega.{arith}
use lib.ListN.{length, length-append}
pub use Rattle.lists.specs.Lists.{Distinct}
use Rattle.lists.specs.Lists.{any, add, gather}

module _ {A : Type 0} where
  pub distinct_snoc : (s : List A) (x : A) → Distinct s → (Memᴰ x s → ⊥) → Distinct (s ++ (x ∷ []))
  distinct_snoc [] x d f = (Memᴰ.not-nil, tt)
  distinct_snoc (y ∷ s) x d f =
      (λ m. ⊎_elim d.0 (λ n. f (Memᴰ.head (sym (Memᴰ.eq_of_singleton n)))) (Memᴰ.append_cases s m), distinct_snoc s x d.1 (λ n. f (Memᴰ.tail n)))

module _ {A : Type 0} (eq : A → A → Bool) where
  pub gather_append : (seen xs ys : List A) → gather eq seen (xs ++ ys) ≡ gather eq (gather eq seen xs) ys
  gather_append seen [] ys = refl
  gather_append seen (x ∷ xs) ys = gather_append (add eq seen x) xs ys

  -- one element: it is there, or it comes to the end
  pub add_cases : (seen : List A) (x : A) → ((any (eq x) seen ≡ true) × (add eq seen x ≡ seen)) ⊎ ((any (eq x) seen ≡ false) × (add eq seen x ≡ seen ++ (x ∷ [])))
  add_cases seen x = go (any (eq x) seen) refl
    where
      go : (b : Bool) → any (eq x) seen ≡ b → ((any (eq x) seen ≡ true) × (add eq seen x ≡ seen)) ⊎ ((any (eq x) seen ≡ false) × (add eq seen x ≡ seen ++ (x ∷ [])))
      go true e = inl (e, rw (e, add))
      go false e = inr (e, rw (e, add))

  pub add-more : (seen : List A) (x : A) → (r : List A) × (add eq seen x ≡ seen ++ r)
  add-more seen x = ⊎_elim (λ h. ([], h.1 ∙ sym (append-nil seen))) (λ h. (x ∷ [], h.1)) (add_cases seen x)

  pub gather-more : (seen xs : List A) → (r : List A) × (gather eq seen xs ≡ seen ++ r)
  gather-more seen [] = ([], sym (append-nil seen))
  gather-more seen (x ∷ xs) =
      let h = add-more seen x in
      let k = gather-more (add eq seen x) xs in
      (h.0 ++ k.0, k.1 ∙ ap (λ (l : List A). l ++ k.0) h.1 ∙ append_assoc seen h.0 k.0)

pub or_cases : (a b : Bool) → (a || b) ≡ true → (a ≡ true) ⊎ (b ≡ true)
or_cases true b e = inl refl
or_cases false b e = inr e

pub or_right : (a : Bool) {b : Bool} → b ≡ true → (a || b) ≡ true
or_right true e = refl
or_right false e = e

module _ {A : Type 0} (eq : A → A → Bool) (sound : (x y : A) → eq x y ≡ true → x ≡ y) (equal : (x : A) → eq x x ≡ true) where
  pub any→mem : (x : A) (l : List A) → any (eq x) l ≡ true → Memᴰ x l
  any→mem x [] e = absurd (false≢true e)
  any→mem x (y ∷ l) e = ⊎_elim (λ f. Memᴰ.head (sound x y f)) (λ f. Memᴰ.tail (any→mem x l f)) (or_cases (eq x y) (any (eq x) l) e)

  pub mem→any : {x : A} {l : List A} → Memᴰ x l → any (eq x) l ≡ true
  mem→any {x} (Memᴰ.head {x = y} e) = rw (← e, equal x)
  mem→any {x} (Memᴰ.tail {x = y} m) = or_right (eq x y) (mem→any m)

  pub not_mem : (x : A) (l : List A) → any (eq x) l ≡ false → Memᴰ x l → ⊥
  not_mem x l e m = true≢false (sym (mem→any m) ∙ e)

  pub distinct_add : (seen : List A) (x : A) → Distinct seen → Distinct (add eq seen x)
  distinct_add seen x d =
      ⊎_elim
      (λ h. rw h.1 d)
      (λ h. rw h.1 (distinct_snoc seen x d (not_mem x seen h.0)))
      (add_cases eq seen x)

  pub distinct_gather : (seen xs : List A) → Distinct seen → Distinct (gather eq seen xs)
  distinct_gather seen [] d = d
  distinct_gather seen (x ∷ xs) d = distinct_gather (add eq seen x) xs (distinct_add seen x d)

  -- what is in the sum of two lists
  pub mem-add : (seen : List A) (x : A) → Memᴰ x (add eq seen x)
  mem-add seen x =
      ⊎_elim
      (λ h. rw h.1 (any→mem x seen h.0))
      (λ h. rw h.1 (Memᴰ.append_right seen (Memᴰ.head refl)))
      (add_cases eq seen x)

  pub mem-gather-left : (seen xs : List A) {a : A} → Memᴰ a seen → Memᴰ a (gather eq seen xs)
  mem-gather-left seen xs m = let h = gather-more eq seen xs in rw h.1 (Memᴰ.append_left h.0 m)

  pub mem-gather-right : (seen xs : List A) {a : A} → Memᴰ a xs → Memᴰ a (gather eq seen xs)
  mem-gather-right seen [] {a = a} m = elim m [ ]
  mem-gather-right seen (x ∷ xs) (Memᴰ.head e) = mem-gather-left (add eq seen x) xs (Memᴰ.cast e (mem-add seen x))
  mem-gather-right seen (x ∷ xs) (Memᴰ.tail m) = mem-gather-right (add eq seen x) xs m

  pub mem-add_cases : (seen : List A) (x : A) {a : A} → Memᴰ a (add eq seen x) → Memᴰ a seen ⊎ (a ≡ x)
  mem-add_cases seen x m =
      ⊎_elim
      (λ h. inl (rw h.1 at m))
      (λ h. ⊎_map (λ n. n) Memᴰ.eq_of_singleton (Memᴰ.append_cases seen (rw h.1 at m)))
      (add_cases eq seen x)

  pub mem-gather_cases : (seen xs : List A) {a : A} → Memᴰ a (gather eq seen xs) → Memᴰ a seen ⊎ Memᴰ a xs
  mem-gather_cases seen [] m = inl m
  mem-gather_cases seen (x ∷ xs) m =
      ⊎_elim
      (λ n. ⊎_map (λ k. k) (λ e. Memᴰ.head e) (mem-add_cases seen x n))
      (λ n. inr (Memᴰ.tail n))
      (mem-gather_cases (add eq seen x) xs m)

pub and_left : (a b : Bool) → (a && b) ≡ true → a ≡ true
and_left true b e = refl
and_left false b e = e

pub and_right : (a b : Bool) → (a && b) ≡ true → b ≡ true
and_right true b e = e
and_right false b e = absurd (false≢true e)

module _ {A : Type 0} (eq : A → A → Bool) where
  add_le : (seen : List A) (x : A) → length (add eq seen x) ≤ length seen + 1
  add_le seen x = ⊎_elim (λ h. omega (arith, ap length h.1)) (λ h. omega (arith, ap length h.1, length-append seen (x ∷ []))) (add_cases eq seen x)

  -- each element adds one at most
  pub gather_le : (seen xs : List A) → length (gather eq seen xs) ≤ length seen + length xs
  gather_le seen [] = omega arith
  gather_le seen (x ∷ xs) = omega (arith, gather_le (add eq seen x) xs, add_le seen x)

  -- and none is lost
  pub gather_ge : (seen xs : List A) → length seen ≤ length (gather eq seen xs)
  gather_ge seen xs = let h = gather-more eq seen xs in omega (arith, ap length h.1, length-append seen h.0)

module _ {A : Type 0} (eq : A → A → Bool) (sound : (x y : A) → eq x y ≡ true → x ≡ y) (equal : (x : A) → eq x x ≡ true) where
  -- if no element stands twice, all are gathered
  pub gather_distinct : (seen xs : List A) → Distinct (seen ++ xs) → gather eq seen xs ≡ seen ++ xs
  gather_distinct seen [] d = sym (append-nil seen)
  gather_distinct seen (x ∷ xs) d =
      ⊎_elim
      (λ h. absurd (seam seen d (any→mem eq sound equal x seen h.0)))
      (λ h. rw h.1 (gather_distinct (seen ++ (x ∷ [])) xs (rw append_assoc d) ∙ append_assoc seen (x ∷ []) xs))
      (add_cases eq seen x)
    where
      seam : (s : List A) → Distinct (s ++ (x ∷ xs)) → Memᴰ x s → ⊥
      seam [] d m = elim m [ ]
      seam (y ∷ s) d (Memᴰ.head e) = d.0 (Memᴰ.append_right s (Memᴰ.head (sym e)))
      seam (y ∷ s) d (Memᴰ.tail m) = seam s d.1 m
