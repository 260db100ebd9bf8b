-- The tests of exact equality decide it. Assumes nothing.
use Rattle.std.proofs.Common.{◌≡◌, ℕ, Bool, true, false, ◌&&◌, T, eqb, ℤ, pos, negsuc, Decides, sym, refl, ap, ◌∙◌, subst, arith}
use lib.Ieee.{Float, nan, inf, fin, binary32, fits, of_bits, to_bits}
use lib.Ieee.Bits.{of_bits-to_bits}
use Rattle.std.proofs.lemmas.Bool.{and_parts, and_from, eqb-true, eq-eqb}
use Rattle.std.proofs.lemmas.Bool.Decides.{Decides-and, Decides-like, same_from_decides}
use Rattle.geometry.specs.declared.vector.Vector.{Vector}
use Rattle.geometry.specs.declared.pose.Rotation.{Rotation}
use Rattle.geometry.specs.declared.pose.Pose.{Pose}
use Rattle.geometry.specs.Vectors.{vector}
use Rattle.records.specs.Equality.{alike, same_exponent, same_number, same_vector, same_rotation, same_pose, EqualityDecides}

-- ---- numbers, part by part

alike_true : (a b : Bool) → alike a b ≡ true → a ≡ b
alike_true true b e = sym e
alike_true false true e = e
alike_true false false e = refl

alike_self : (a : Bool) → alike a a ≡ true
alike_self true = refl
alike_self false = refl

exponent_out : (e d : ℤ) → same_exponent e d ≡ true → e ≡ d
exponent_out (pos a) (pos b) h = ap pos (eqb-true a b h)
exponent_out (pos a) (negsuc b) h = absurd (grind arith)
exponent_out (negsuc a) (pos b) h = absurd (grind arith)
exponent_out (negsuc a) (negsuc b) h = ap negsuc (eqb-true a b h)

exponent_self : (e : ℤ) → same_exponent e e ≡ true
exponent_self (pos a) = eq-eqb a a refl
exponent_self (negsuc a) = eq-eqb a a refl

number_out : (a b : Float) → same_number a b ≡ true → a ≡ b
number_out nan nan h = refl
number_out nan (inf t) h = absurd (grind arith)
number_out nan (fin t n d) h = absurd (grind arith)
number_out (inf s) nan h = absurd (grind arith)
number_out (inf s) (inf t) h = ap inf (alike_true s t h)
number_out (inf s) (fin t n d) h = absurd (grind arith)
number_out (fin s m e) nan h = absurd (grind arith)
number_out (fin s m e) (inf t) h = absurd (grind arith)
number_out (fin s m e) (fin t n d) h =
    let p = and_parts (alike s t) (eqb m n && same_exponent e d) h in
    let q = and_parts (eqb m n) (same_exponent e d) p.1 in
    ap (λ (x : Bool). fin x m e) (alike_true s t p.0) ∙ ap (λ (x : ℕ). fin t x e) (eqb-true m n q.0) ∙ ap (λ (x : ℤ). fin t n x) (exponent_out e d q.1)

number_self : (a : Float) → same_number a a ≡ true
number_self nan = refl
number_self (inf s) = alike_self s
number_self (fin s m e) = and_from (alike s s) (eqb m m && same_exponent e e) (alike_self s) (and_from (eqb m m) (same_exponent e e) (eq-eqb m m refl) (exponent_self e))

pub same_number_lem : (a b : Float) → Decides (same_number a b) (a ≡ b)
same_number_lem a b = (number_out a b, λ e. subst (λ (y : Float). same_number a y ≡ true) e (number_self a))

-- ---- by their bits

-- values of single precision are one where their bits are
bits_decide : (a b : Float) → T (fits binary32 a) → T (fits binary32 b) → Decides (eqb (to_bits binary32 a) (to_bits binary32 b)) (a ≡ b)
bits_decide a b A B = (
  λ h. sym (of_bits-to_bits binary32 a A) ∙ ap (of_bits binary32) (eqb-true _ _ h) ∙ of_bits-to_bits binary32 b B,
  λ e. eq-eqb _ _ (ap (to_bits binary32) e),
)

pub same_bits : (a b : Float) → T (fits binary32 a) → T (fits binary32 b) → eqb (to_bits binary32 a) (to_bits binary32 b) ≡ same_number a b
same_bits a b A B = same_from_decides (eqb (to_bits binary32 a) (to_bits binary32 b)) (same_number a b) (bits_decide a b A B) (same_number_lem a b)

-- ---- vectors, turns and poses

vector_of : (a b : Vector) → a.x ≡ b.x → a.y ≡ b.y → a.z ≡ b.z → a ≡ b
vector_of a b p q r = let e : vector a.x a.y a.z ≡ vector b.x b.y b.z = rw (p, q, r) refl in e

abbrev turn : Float → Float → Float → Float → Rotation
turn a b c d = record { i = a; j = b; k = c; w = d }

rotation_of : (a b : Rotation) → a.i ≡ b.i → a.j ≡ b.j → a.k ≡ b.k → a.w ≡ b.w → a ≡ b
rotation_of a b p q r s = let e : turn a.i a.j a.k a.w ≡ turn b.i b.j b.k b.w = rw (p, q, r, s) refl in e

abbrev pose : Vector → Rotation → Pose
pose v r = record { translation = v; rotation = r }

pose_of : (a b : Pose) → a.translation ≡ b.translation → a.rotation ≡ b.rotation → a ≡ b
pose_of a b p q = let e : pose a.translation a.rotation ≡ pose b.translation b.rotation = rw (p, q) refl in e

pub same_vector_lem : (a b : Vector) → Decides (same_vector a b) (a ≡ b)
same_vector_lem a b =
    let x = same_number a.x b.x in
    let y = same_number a.y b.y in
    let z = same_number a.z b.z in
    let X = a.x ≡ b.x in
    let Y = a.y ≡ b.y in
    let Z = a.z ≡ b.z in
    Decides-like {P = X × (Y × Z)} {Q = a ≡ b} (x && (y && z))
    (λ h. vector_of a b h.0 h.1.0 h.1.1)
    (λ e. (ap (λ (v : Vector). v.x) e, (ap (λ (v : Vector). v.y) e, ap (λ (v : Vector). v.z) e)))
    (Decides-and {P = X} {Q = Y × Z} x (y && z) (same_number_lem a.x b.x) (Decides-and {P = Y} {Q = Z} y z (same_number_lem a.y b.y) (same_number_lem a.z b.z)))

same_rotation_lem : (a b : Rotation) → Decides (same_rotation a b) (a ≡ b)
same_rotation_lem a b =
    let x = same_number a.i b.i in
    let y = same_number a.j b.j in
    let z = same_number a.k b.k in
    let u = same_number a.w b.w in
    let X = a.i ≡ b.i in
    let Y = a.j ≡ b.j in
    let Z = a.k ≡ b.k in
    let U = a.w ≡ b.w in
    Decides-like {P = X × (Y × (Z × U))} {Q = a ≡ b} (x && (y && (z && u)))
    (λ h. rotation_of a b h.0 h.1.0 h.1.1.0 h.1.1.1)
    (λ e. (ap (λ (v : Rotation). v.i) e, (ap (λ (v : Rotation). v.j) e, (ap (λ (v : Rotation). v.k) e, ap (λ (v : Rotation). v.w) e))))
    (Decides-and {P = X} {Q = Y × (Z × U)} x (y && (z && u)) (same_number_lem a.i b.i)
    (Decides-and {P = Y} {Q = Z × U} y (z && u) (same_number_lem a.j b.j) (Decides-and {P = Z} {Q = U} z u (same_number_lem a.k b.k) (same_number_lem a.w b.w))))

pub same_pose_lem : (a b : Pose) → Decides (same_pose a b) (a ≡ b)
same_pose_lem a b =
    let v = same_vector a.translation b.translation in
    let r = same_rotation a.rotation b.rotation in
    let V = a.translation ≡ b.translation in
    let R = a.rotation ≡ b.rotation in
    Decides-like {P = V × R} {Q = a ≡ b} (v && r)
    (λ h. pose_of a b h.0 h.1)
    (λ e. (ap (λ (p : Pose). p.translation) e, ap (λ (p : Pose). p.rotation) e))
    (Decides-and {P = V} {Q = R} v r (same_vector_lem a.translation b.translation) (same_rotation_lem a.rotation b.rotation))

pub exact : EqualityDecides
exact = record { numbers = same_number_lem; vectors = same_vector_lem; poses = same_pose_lem }
