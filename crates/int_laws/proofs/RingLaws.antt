-- Equations of polynomials over ℤ, by reflection. `E` is an expression in the variables 0, 1, .. ; `den n ρ e` is its value if
-- variable i is the i-th of the list ρ and n is how many there are. `norm n e` is the polynomial, as coefficients nested n deep, and
-- `ring n ρ a b tt : den n ρ a ≡ den n ρ b` if a and b have the same polynomial.
-- Assumes nothing.
use mathlib.Core.Path.{◌≡◌, refl, sym, ap, ap₂, ◌∙◌}
use mathlib.Core.Bool.{Bool, true, false}
use mathlib.Core.List.{List, [], ◌∷◌}
use Prim.Native.Nat.{ℕ, zero, suc}
use lib.IntN.{ℤ, pos, negsuc, neg_ℤ, ◌+ℤ◌, ◌-ℤ◌, ◌*ℤ◌, +ℤ_comm, +ℤ_idl, +ℤ_idr, +ℤ_invr, -ℤ-+ℤ_cancel, neg_ℤ-+ℤ, suc_ℤ-+ℤ, pred_ℤ-+ℤ, suc_ℤ-*ℤ, pred_ℤ-*ℤ, zero-*ℤ, *ℤ-zero, *ℤ_comm}
use lib.Dec.{T}
use Rattle.int_laws.proofs.LinearLaws.{bal+, up_neg, dn-neg, zarith}

-- the laws that lib.IntN lacks
swap4 : (a b c d : ℤ) → (a +ℤ b) +ℤ (c +ℤ d) ≡ (a +ℤ c) +ℤ (b +ℤ d)
swap4 a b c d = omega (zarith, bal+ (a +ℤ b) (c +ℤ d), bal+ (a +ℤ c) (b +ℤ d), bal+ a b, bal+ c d, bal+ a c, bal+ b d)

add_*ℤ : (a b c : ℤ) → (a +ℤ b) *ℤ c ≡ (a *ℤ c) +ℤ (b *ℤ c)
add_*ℤ (pos zero) b c = ap (λ x. x *ℤ c) (+ℤ_idl b) ∙ sym (ap (λ x. x +ℤ (b *ℤ c)) (zero-*ℤ c) ∙ +ℤ_idl (b *ℤ c))
add_*ℤ (pos (suc n)) b c = ap (λ x. x *ℤ c) (suc_ℤ-+ℤ (pos n) b) ∙ suc_ℤ-*ℤ (pos n +ℤ b) c ∙ ap (λ x. x +ℤ c) (add_*ℤ (pos n) b c) ∙ swap (pos n *ℤ c) (b *ℤ c) c ∙ sym (ap (λ x. x +ℤ (b *ℤ c)) (suc_ℤ-*ℤ (pos n) c))
  where
    swap : (x y z : ℤ) → (x +ℤ y) +ℤ z ≡ (x +ℤ z) +ℤ y
    swap x y z = omega (zarith, bal+ x y, bal+ (x +ℤ y) z, bal+ x z, bal+ (x +ℤ z) y)
add_*ℤ (negsuc zero) b c = ap (λ x. x *ℤ c) (pred_ℤ-+ℤ (pos zero) b) ∙ pred_ℤ-*ℤ (pos zero +ℤ b) c ∙ ap (λ x. (x *ℤ c) -ℤ c) (+ℤ_idl b) ∙ flip (b *ℤ c) (neg_ℤ c) ∙ sym (ap (λ x. x +ℤ (b *ℤ c)) (pred_ℤ-*ℤ (pos zero) c ∙ ap (λ x. x -ℤ c) (zero-*ℤ c) ∙ +ℤ_idl (neg_ℤ c)))
  where
    flip : (x y : ℤ) → x +ℤ y ≡ y +ℤ x
    flip x y = +ℤ_comm x y
add_*ℤ (negsuc (suc n)) b c = ap (λ x. x *ℤ c) (pred_ℤ-+ℤ (negsuc n) b) ∙ pred_ℤ-*ℤ (negsuc n +ℤ b) c ∙ ap (λ x. x -ℤ c) (add_*ℤ (negsuc n) b c) ∙ swap (negsuc n *ℤ c) (b *ℤ c) (neg_ℤ c) ∙ sym (ap (λ x. x +ℤ (b *ℤ c)) (pred_ℤ-*ℤ (negsuc n) c))
  where
    swap : (x y z : ℤ) → (x +ℤ y) +ℤ z ≡ (x +ℤ z) +ℤ y
    swap x y z = omega (zarith, bal+ x y, bal+ (x +ℤ y) z, bal+ x z, bal+ (x +ℤ z) y)

pub *ℤ-add : (c a b : ℤ) → c *ℤ (a +ℤ b) ≡ (c *ℤ a) +ℤ (c *ℤ b)
*ℤ-add c a b = *ℤ_comm c (a +ℤ b) ∙ add_*ℤ a b c ∙ ap₂ ◌+ℤ◌ (*ℤ_comm a c) (*ℤ_comm b c)

neg_*ℤ : (a c : ℤ) → neg_ℤ a *ℤ c ≡ neg_ℤ (a *ℤ c)
neg_*ℤ a c = uniq (a *ℤ c) (neg_ℤ a *ℤ c) (sym (add_*ℤ a (neg_ℤ a) c) ∙ ap (λ x. x *ℤ c) (+ℤ_invr a) ∙ zero-*ℤ c)
  where
    uniq : (x y : ℤ) → x +ℤ y ≡ pos 0 → y ≡ neg_ℤ x
    uniq x y e = omega (zarith, bal+ x y, up_neg x, dn-neg x)

*ℤ-assoc : (a b c : ℤ) → (a *ℤ b) *ℤ c ≡ a *ℤ (b *ℤ c)
*ℤ-assoc (pos zero) b c = ap (λ x. x *ℤ c) (zero-*ℤ b) ∙ zero-*ℤ c ∙ sym (zero-*ℤ (b *ℤ c))
*ℤ-assoc (pos (suc n)) b c = ap (λ x. x *ℤ c) (suc_ℤ-*ℤ (pos n) b) ∙ add_*ℤ (pos n *ℤ b) b c ∙ ap (λ x. x +ℤ (b *ℤ c)) (*ℤ-assoc (pos n) b c) ∙ sym (suc_ℤ-*ℤ (pos n) (b *ℤ c))
*ℤ-assoc (negsuc zero) b c = ap (λ x. x *ℤ c) (minus b) ∙ neg_*ℤ b c ∙ sym (minus (b *ℤ c))
  where
    minus : (x : ℤ) → negsuc zero *ℤ x ≡ neg_ℤ x
    minus x = pred_ℤ-*ℤ (pos zero) x ∙ ap (λ y. y -ℤ x) (zero-*ℤ x) ∙ +ℤ_idl (neg_ℤ x)
*ℤ-assoc (negsuc (suc n)) b c = ap (λ x. x *ℤ c) (pred_ℤ-*ℤ (negsuc n) b) ∙ add_*ℤ (negsuc n *ℤ b) (neg_ℤ b) c ∙ ap₂ ◌+ℤ◌ (*ℤ-assoc (negsuc n) b c) (neg_*ℤ b c) ∙ sym (pred_ℤ-*ℤ (negsuc n) (b *ℤ c))

-- expressions
infixl 6 ◌⊕◌ ◌⊖◌
infixl 7 ◌⊗◌
pub data E : Type 0 where
  v : ℕ → E
  k : ℤ → E
  ◌⊕◌ : E → E → E
  ◌⊖◌ : E → E → E
  ◌⊗◌ : E → E → E
  ⊝ : E → E

abbrev pub hd : List ℤ → ℤ
hd [] = pos 0
hd (x ∷ ρ) = x

abbrev pub tl : List ℤ → List ℤ
tl [] = []
tl (x ∷ ρ) = ρ

abbrev nth : ℕ → List ℤ → ℕ → ℤ
nth zero ρ i = pos 0
nth (suc n) ρ zero = hd ρ
nth (suc n) ρ (suc i) = nth n (tl ρ) i

abbrev pub den : ℕ → List ℤ → E → ℤ
den n ρ (v i) = nth n ρ i
den n ρ (k c) = c
den n ρ (a ⊕ b) = den n ρ a +ℤ den n ρ b
den n ρ (a ⊖ b) = den n ρ a -ℤ den n ρ b
den n ρ (a ⊗ b) = den n ρ a *ℤ den n ρ b
den n ρ (⊝ a) = neg_ℤ (den n ρ a)

-- polynomials in one variable over coefficients that are known through their values
abbrev add_l : {A : Type 0} → (A → A → A) → List A → List A → List A
add_l f [] q = q
add_l f (a ∷ p) [] = a ∷ p
add_l f (a ∷ p) (b ∷ q) = f a b ∷ add_l f p q

abbrev map_l : {A : Type 0} → (A → A) → List A → List A
map_l f [] = []
map_l f (a ∷ p) = f a ∷ map_l f p

abbrev mul_l : {A : Type 0} → A → (A → A → A) → (A → A → A) → List A → List A → List A
mul_l z f g [] q = []
mul_l z f g (a ∷ p) q = add_l f (map_l (g a) q) (z ∷ mul_l z f g p q)

abbrev ev_l : {A : Type 0} → (A → ℤ) → ℤ → List A → ℤ
ev_l ev x [] = pos 0
ev_l ev x (a ∷ p) = ev a +ℤ (x *ℤ ev_l ev x p)

abbrev pub ◌&◌ : Bool → Bool → Bool
◌&◌ true b = b
◌&◌ false b = false

abbrev pub all_l : {A : Type 0} → (A → Bool) → List A → Bool
all_l t [] = true
all_l t (a ∷ p) = ◌&◌ (t a) (all_l t p)

pub and_l : (a b : Bool) → T (◌&◌ a b) → T a
and_l true b t = tt
and_l false b t = t

pub and_r : (a b : Bool) → T (◌&◌ a b) → T b
and_r true b t = t
and_r false b t = absurd t

module _ {A : Type 0} (ev : A → ℤ) (x : ℤ) where
  add_l_ev : (f : A → A → A) → ((a b : A) → ev (f a b) ≡ ev a +ℤ ev b) → (p q : List A) → ev_l ev x (add_l f p q) ≡ ev_l ev x p +ℤ ev_l ev x q
  add_l_ev f h [] q = sym (+ℤ_idl (ev_l ev x q))
  add_l_ev f h (a ∷ p) [] = sym (+ℤ_idr (ev_l ev x (a ∷ p)))
  add_l_ev f h (a ∷ p) (b ∷ q) = ap₂ ◌+ℤ◌ (h a b) (ap (λ y. x *ℤ y) (add_l_ev f h p q) ∙ *ℤ-add x (ev_l ev x p) (ev_l ev x q)) ∙ swap4 (ev a) (ev b) (x *ℤ ev_l ev x p) (x *ℤ ev_l ev x q)

  scale_ev : (g : A → A) (c : ℤ) → ((a : A) → ev (g a) ≡ c *ℤ ev a) → (p : List A) → ev_l ev x (map_l g p) ≡ c *ℤ ev_l ev x p
  scale_ev g c h [] = sym (*ℤ-zero c)
  scale_ev g c h (a ∷ p) = ap₂ ◌+ℤ◌ (h a) (ap (λ y. x *ℤ y) (scale_ev g c h p) ∙ sym (*ℤ-assoc x c (ev_l ev x p)) ∙ ap (λ y. y *ℤ ev_l ev x p) (*ℤ_comm x c) ∙ *ℤ-assoc c x (ev_l ev x p)) ∙ sym (*ℤ-add c (ev a) (x *ℤ ev_l ev x p))

  neg_ev : (g : A → A) → ((a : A) → ev (g a) ≡ neg_ℤ (ev a)) → (p : List A) → ev_l ev x (map_l g p) ≡ neg_ℤ (ev_l ev x p)
  neg_ev g h [] = refl
  neg_ev g h (a ∷ p) = ap₂ ◌+ℤ◌ (h a) (ap (λ y. x *ℤ y) (neg_ev g h p) ∙ *ℤ_comm x (neg_ℤ (ev_l ev x p)) ∙ neg_*ℤ (ev_l ev x p) x ∙ ap neg_ℤ (*ℤ_comm (ev_l ev x p) x)) ∙ sym (neg_ℤ-+ℤ (ev a) (x *ℤ ev_l ev x p))

  mul_l_ev : (z : A) (f g : A → A → A) → ev z ≡ pos 0 → ((a b : A) → ev (f a b) ≡ ev a +ℤ ev b) → ((a b : A) → ev (g a b) ≡ ev a *ℤ ev b) → (p q : List A) → ev_l ev x (mul_l z f g p q) ≡ ev_l ev x p *ℤ ev_l ev x q
  mul_l_ev z f g hz hf hg [] q = sym (zero-*ℤ (ev_l ev x q))
  mul_l_ev z f g hz hf hg (a ∷ p) q =
      add_l_ev f hf (map_l (g a) q) (z ∷ mul_l z f g p q)
      ∙ ap₂ ◌+ℤ◌ (scale_ev (g a) (ev a) (hg a) q) (ap₂ ◌+ℤ◌ hz (ap (λ y. x *ℤ y) (mul_l_ev z f g hz hf hg p q)) ∙ +ℤ_idl (x *ℤ (ev_l ev x p *ℤ ev_l ev x q)) ∙ sym (*ℤ-assoc x (ev_l ev x p) (ev_l ev x q)))
      ∙ sym (add_*ℤ (ev a) (x *ℤ ev_l ev x p) (ev_l ev x q))

  all_l_ev : (t : A → Bool) → ((a : A) → T (t a) → ev a ≡ pos 0) → (p : List A) → T (all_l t p) → ev_l ev x p ≡ pos 0
  all_l_ev t h [] w = refl
  all_l_ev t h (a ∷ p) w = ap₂ ◌+ℤ◌ (h a (and_l (t a) (all_l t p) w)) (ap (λ y. x *ℤ y) (all_l_ev t h p (and_r (t a) (all_l t p) w)) ∙ *ℤ-zero x)

-- in n variables
abbrev pub Poly : ℕ → Type 0
Poly zero = ℤ
Poly (suc n) = List (Poly n)

abbrev con : (n : ℕ) → ℤ → Poly n
con zero c = c
con (suc n) c = con n c ∷ []

abbrev var : (n : ℕ) → ℕ → Poly n
var zero i = pos 0
var (suc n) zero = con n (pos 0) ∷ con n (pos 1) ∷ []
var (suc n) (suc i) = var n i ∷ []

abbrev add_p : (n : ℕ) → Poly n → Poly n → Poly n
add_p zero = λ a b. a +ℤ b
add_p (suc n) = add_l (add_p n)

abbrev neg_p : (n : ℕ) → Poly n → Poly n
neg_p zero = λ a. neg_ℤ a
neg_p (suc n) = map_l (neg_p n)

abbrev mul_p : (n : ℕ) → Poly n → Poly n → Poly n
mul_p zero = λ a b. a *ℤ b
mul_p (suc n) = mul_l (con n (pos 0)) (add_p n) (mul_p n)

abbrev is_z : ℤ → Bool
is_z (pos zero) = true
is_z (pos (suc n)) = false
is_z (negsuc n) = false

abbrev pub zero_p : (n : ℕ) → Poly n → Bool
zero_p zero = λ a. is_z a
zero_p (suc n) = all_l (zero_p n)

abbrev pub ev_p : (n : ℕ) → List ℤ → Poly n → ℤ
ev_p zero ρ = λ a. a
ev_p (suc n) ρ = ev_l (ev_p n (tl ρ)) (hd ρ)

abbrev pub norm : (n : ℕ) → E → Poly n
norm n (v i) = var n i
norm n (k c) = con n c
norm n (a ⊕ b) = add_p n (norm n a) (norm n b)
norm n (a ⊖ b) = add_p n (norm n a) (neg_p n (norm n b))
norm n (a ⊗ b) = mul_p n (norm n a) (norm n b)
norm n (⊝ a) = neg_p n (norm n a)

con_ev : (n : ℕ) (ρ : List ℤ) (c : ℤ) → ev_p n ρ (con n c) ≡ c
con_ev zero ρ c = refl
con_ev (suc n) ρ c = ap₂ ◌+ℤ◌ (con_ev n (tl ρ) c) (*ℤ-zero (hd ρ)) ∙ +ℤ_idr c

one_*ℤ : (x : ℤ) → x *ℤ pos 1 ≡ x
one_*ℤ x = *ℤ_comm x (pos 1) ∙ suc_ℤ-*ℤ (pos 0) x ∙ ap (λ y. y +ℤ x) (zero-*ℤ x) ∙ +ℤ_idl x

var_ev : (n : ℕ) (ρ : List ℤ) (i : ℕ) → ev_p n ρ (var n i) ≡ nth n ρ i
var_ev zero ρ i = refl
var_ev (suc n) ρ zero = ap₂ ◌+ℤ◌ (con_ev n (tl ρ) (pos 0)) (ap (λ y. hd ρ *ℤ y) (ap₂ ◌+ℤ◌ (con_ev n (tl ρ) (pos 1)) (*ℤ-zero (hd ρ))) ∙ one_*ℤ (hd ρ)) ∙ +ℤ_idl (hd ρ)
var_ev (suc n) ρ (suc i) = ap₂ ◌+ℤ◌ (var_ev n (tl ρ) i) (*ℤ-zero (hd ρ)) ∙ +ℤ_idr (nth n (tl ρ) i)

add_p_ev : (n : ℕ) (ρ : List ℤ) (p q : Poly n) → ev_p n ρ (add_p n p q) ≡ ev_p n ρ p +ℤ ev_p n ρ q
add_p_ev zero ρ p q = refl
add_p_ev (suc n) ρ p q = add_l_ev (ev_p n (tl ρ)) (hd ρ) (add_p n) (add_p_ev n (tl ρ)) p q

neg_p_ev : (n : ℕ) (ρ : List ℤ) (p : Poly n) → ev_p n ρ (neg_p n p) ≡ neg_ℤ (ev_p n ρ p)
neg_p_ev zero ρ p = refl
neg_p_ev (suc n) ρ p = neg_ev (ev_p n (tl ρ)) (hd ρ) (neg_p n) (neg_p_ev n (tl ρ)) p

mul_p_ev : (n : ℕ) (ρ : List ℤ) (p q : Poly n) → ev_p n ρ (mul_p n p q) ≡ ev_p n ρ p *ℤ ev_p n ρ q
mul_p_ev zero ρ p q = refl
mul_p_ev (suc n) ρ p q = mul_l_ev (ev_p n (tl ρ)) (hd ρ) (con n (pos 0)) (add_p n) (mul_p n) (con_ev n (tl ρ) (pos 0)) (add_p_ev n (tl ρ)) (mul_p_ev n (tl ρ)) p q

is_z-is : (a : ℤ) → T (is_z a) → a ≡ pos 0
is_z-is (pos zero) t = refl
is_z-is (pos (suc n)) t = absurd t
is_z-is (negsuc n) t = absurd t

pub zero_p_ev : (n : ℕ) (ρ : List ℤ) (p : Poly n) → T (zero_p n p) → ev_p n ρ p ≡ pos 0
zero_p_ev zero ρ p t = is_z-is p t
zero_p_ev (suc n) ρ p t = all_l_ev (ev_p n (tl ρ)) (hd ρ) (zero_p n) (zero_p_ev n (tl ρ)) p t

pub norm_ev : (n : ℕ) (ρ : List ℤ) (e : E) → ev_p n ρ (norm n e) ≡ den n ρ e
norm_ev n ρ (v i) = var_ev n ρ i
norm_ev n ρ (k c) = con_ev n ρ c
norm_ev n ρ (a ⊕ b) = add_p_ev n ρ (norm n a) (norm n b) ∙ ap₂ ◌+ℤ◌ (norm_ev n ρ a) (norm_ev n ρ b)
norm_ev n ρ (a ⊖ b) = add_p_ev n ρ (norm n a) (neg_p n (norm n b)) ∙ ap₂ ◌+ℤ◌ (norm_ev n ρ a) (neg_p_ev n ρ (norm n b) ∙ ap neg_ℤ (norm_ev n ρ b))
norm_ev n ρ (a ⊗ b) = mul_p_ev n ρ (norm n a) (norm n b) ∙ ap₂ ◌*ℤ◌ (norm_ev n ρ a) (norm_ev n ρ b)
norm_ev n ρ (⊝ a) = neg_p_ev n ρ (norm n a) ∙ ap neg_ℤ (norm_ev n ρ a)

-- a and b are one polynomial
pub ring : (n : ℕ) (ρ : List ℤ) (a b : E) → T (zero_p n (norm n (a ⊖ b))) → den n ρ a ≡ den n ρ b
ring n ρ a b t = same (den n ρ a) (den n ρ b) (sym (norm_ev n ρ (a ⊖ b)) ∙ zero_p_ev n ρ (norm n (a ⊖ b)) t)
  where
    same : (x y : ℤ) → x -ℤ y ≡ pos 0 → x ≡ y
    same x y e = sym (-ℤ-+ℤ_cancel x y) ∙ ap (λ z. z +ℤ y) e ∙ +ℤ_idl y
