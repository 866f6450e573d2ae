-- Content is issuer and payload: equal content is equal issuer and equal payload bytes; the parts settle the payload's bytes, and an accepted
-- payload is the one that its delegation came as. Rests on the payload's round trips.
use Prim.Native.Nat.{ℕ, ◌<◌}
use mathlib.Core.Path.{◌≡◌, refl, sym, ap}
use mathlib.Core.Bool.{Bool, true, false, cond}
use mathlib.Core.List.{[], ◌∷◌, ◌++◌}
use native.Mathlib.Omega.{arith}
use lib.ListN.{length}
use lib.Dec.{eqb}
use borrow.Author.Tests.{eq-eqb, eqb-true, eqb-false}
use Rattle.power_levels.specs.Power.{byte_of, rank_of}
use Rattle.std.specs.Prelude.{Ok}
use Rattle.codec.specs.Delegation.{found, decoded, encoded, tag_for}
use Rattle.power_levels.specs.declared.power.Power.{Power}
use Rattle.power_levels.specs.declared.power.Power.TheVariants.{Relay, Read, Edit, Admin}
use Rattle.codec.proofs.Parts.{parts}
use Rattle.runs.specs.Bytes.{Bytes, eq_bytes}
use Rattle.runs.proofs.BoolLaws.{both_true}
use Rattle.runs.proofs.ByteLaws.{eq_true, eq_refl}
use Rattle.tables.specs.Committed.{Delegation, Revocation, same_content, same_revoked, same_parts, payload_of}
use Rattle.tables.specs.Insertion.{delegation_from}
use Rattle.power_levels.specs.Power.{level_count}
use Rattle.tables.specs.Columns.{power_of}

-- ---- runs of one length, with others behind them
eq_append : (a b x y : Bytes) → length a ≡ length b → eq_bytes (a ++ x) (b ++ y) ≡ cond (eq_bytes a b) (eq_bytes x y) false
unfolding eq_bytes
eq_append [] [] x y h = refl
eq_append [] (k ∷ b) x y h = absurd (omega (arith, h))
eq_append (j ∷ a) [] x y h = absurd (omega (arith, h))
eq_append (j ∷ a) (k ∷ b) x y h = go (eqb j k) (eq_append a b x y (omega (arith, h)))
  where
    go : (t : Bool) → eq_bytes (a ++ x) (b ++ y) ≡ cond (eq_bytes a b) (eq_bytes x y) false
        → cond t (eq_bytes (a ++ x) (b ++ y)) false ≡ cond (cond t (eq_bytes a b) false) (eq_bytes x y) false
    go true e = e
    go false e = refl

-- ---- a power, its rank and its byte
pub power_rank : (p : Power) → power_of (rank_of p) ≡ p
unfolding power_of
power_rank Relay = refl
power_rank Read = refl
power_rank Edit = refl
power_rank Admin = refl

pub rank_power : (r : ℕ) → r < level_count → rank_of (power_of r) ≡ r
unfolding power_of
rank_power r h = go (eqb r 0) (eqb r 1) (eqb r 2) refl refl refl
  where
    go : (t u v : Bool) → eqb r 0 ≡ t → eqb r 1 ≡ u → eqb r 2 ≡ v → rank_of (cond t Relay (cond u Read (cond v Edit Admin))) ≡ r
    go true u v p q s = sym (eqb-true r 0 p)
    go false true v p q s = sym (eqb-true r 1 q)
    go false false true p q s = sym (eqb-true r 2 s)
    go false false false p q s =
        let a = eqb-false r 0 p in
        let b = eqb-false r 1 q in
        let c = eqb-false r 2 s in
        omega arith

-- the byte and the rank say the same
byte_rank : (p q : Power) → eqb (byte_of p) (byte_of q) ≡ eqb (rank_of p) (rank_of q)
byte_rank Relay Relay = refl
byte_rank Relay Read = refl
byte_rank Relay Edit = refl
byte_rank Relay Admin = refl
byte_rank Read Relay = refl
byte_rank Read Read = refl
byte_rank Read Edit = refl
byte_rank Read Admin = refl
byte_rank Edit Relay = refl
byte_rank Edit Read = refl
byte_rank Edit Edit = refl
byte_rank Edit Admin = refl
byte_rank Admin Relay = refl
byte_rank Admin Read = refl
byte_rank Admin Edit = refl
byte_rank Admin Admin = refl

-- the citation settles the tag
tag_same : (c d : Bytes) → cond (eqb (tag_for (length c)) (tag_for (length d))) (eq_bytes c d) false ≡ eq_bytes c d
tag_same c d = go (eq_bytes c d) refl
  where
    under : (t : Bool) → cond t false false ≡ false
    under true = refl
    under false = refl

    go : (t : Bool) → eq_bytes c d ≡ t → cond (eqb (tag_for (length c)) (tag_for (length d))) t false ≡ t
    go true e = rw (eq-eqb (tag_for (length c)) (tag_for (length d)) (rw (eq_true c d e)))
    go false e = under (eqb (tag_for (length c)) (tag_for (length d)))

tail_same : (b e : ℕ) (c d : Bytes) → eq_bytes (b ∷ tag_for (length c) ∷ c) (e ∷ tag_for (length d) ∷ d) ≡ cond (eqb b e) (eq_bytes c d) false
unfolding eq_bytes
tail_same b e c d = ap (λ (t : Bool). cond (eqb b e) t false) (tag_same c d)

-- equal issuer and payload bytes, exactly where the parts are equal
pub content_parts : (g h : Delegation) → length g.audience ≡ length h.audience → length g.subject ≡ length h.subject → same_content g h ≡ same_parts g h
unfolding same_content same_parts encoded
content_parts g h p q =
    rw (
      eq_append g.audience h.audience (g.subject ++ (byte_of g.power ∷ tag_for (length g.citation) ∷ g.citation)) (h.subject ++ (byte_of h.power ∷ tag_for (length h.citation) ∷ h.citation)) p,
      eq_append g.subject h.subject (byte_of g.power ∷ tag_for (length g.citation) ∷ g.citation) (byte_of h.power ∷ tag_for (length h.citation) ∷ h.citation) q,
      tail_same (byte_of g.power) (byte_of h.power) g.citation h.citation,
      byte_rank g.power h.power,
    )

-- an accepted payload is the payload of the delegation that it says
pub payload_back : (d i p : Bytes) (w : Power) (t : Bool) → decoded p ≡ Ok (found w t) → payload_of (delegation_from d i p w) ≡ p
payload_back d i p w t e = (parts p w t e).whole

-- ---- equal content, as document 01 says it
pub content_same : (g h : Delegation) → same_content g h ≡ true → (g.issuer ≡ h.issuer) × (payload_of g ≡ payload_of h)
unfolding same_content
content_same g h e = let p = both_true _ _ e in (eq_true _ _ p.0, eq_true _ _ p.1)

pub same_content_lem : (g h : Delegation) → g.issuer ≡ h.issuer → payload_of g ≡ payload_of h → same_content g h ≡ true
unfolding same_content
same_content_lem g h p q = rw (p, q, eq_refl h.issuer) (eq_refl (payload_of h))

pub revoked_parts : (r q : Revocation) → same_revoked r q ≡ true → (r.issuer ≡ q.issuer) × (r.revoked ≡ q.revoked)
unfolding same_revoked
revoked_parts r q e = let p = both_true _ _ e in (eq_true _ _ p.0, eq_true _ _ p.1)

pub same_revoked_lem : (r q : Revocation) → r.issuer ≡ q.issuer → r.revoked ≡ q.revoked → same_revoked r q ≡ true
unfolding same_revoked
same_revoked_lem r q p e = rw (p, e, eq_refl q.issuer) (eq_refl q.revoked)

-- content says nothing of the digest
pub any_digest : (g h : Delegation) (d : Bytes)
    → same_content (record { digest = d; issuer = g.issuer; audience = g.audience; subject = g.subject; power = g.power; citation = g.citation }) h ≡ same_content g h
unfolding same_content
any_digest g h d = refl

pub any_revoked : (r q : Revocation) (d : Bytes) → same_revoked (record { digest = d; issuer = r.issuer; revoked = r.revoked }) q ≡ same_revoked r q
unfolding same_revoked
any_revoked r q d = refl
