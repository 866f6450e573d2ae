-- S1 to S12 of document 01, one table: what is inserted and what is so afterwards.
-- `specimens_hold` of proofs/Plain/Specimens: every line is right by the definitions of Rules.
use Rattle.std.specs.Prelude.{ℕ, List, [], ◌∷◌}
use Rattle.std.proofs.Math.Option.{none, some}
use Rattle.rules.specs.Rules.{Read, Edit, Admin, revoked, unsupported}
use Rattle.rules.specs.Numbered.{Del, Rev, delegation, revocation}
use Rattle.rules.specs.Facts.{Fact, positive, effective, conveyed, capped, alive, dead, standing, excluding, closure, members, Specimen}

-- The keys, by document 01's letters.
abbrev S : ℕ
S = 1

abbrev A : ℕ
A = 2

abbrev B : ℕ
B = 3

abbrev G : ℕ
G = 4

abbrev K : ℕ
K = 5

abbrev M : ℕ
M = 6

abbrev X : ℕ
X = 7

abbrev Z : ℕ
Z = 8

abbrev H : ℕ
H = 9

-- "I>A Edit/S" is `gives n I A Edit S`, with the digest n.
abbrev gives : ℕ → ℕ → ℕ → ℕ → ℕ → Del
gives n i a p s = record { digest = n; issuer = i; audience = a; subject = s; power = p }

-- the key k revokes d, with the digest n
abbrev revokes : ℕ → ℕ → Del → Rev
revokes n k d = record { digest = n; issuer = k; target = d.digest }

abbrev SA : Del
SA = gives 11 S A Edit S

abbrev AB : Del
AB = gives 12 A B Admin S

abbrev SG : Del
SG = gives 13 S G Edit S

abbrev GM : Del
GM = gives 14 G M Admin G

abbrev XB : Del
XB = gives 15 X B Read S

abbrev SA⁺ : Del
SA⁺ = gives 16 S A Admin S

abbrev SB : Del
SB = gives 17 S B Edit S

abbrev GK : Del
GK = gives 18 G K Admin G

abbrev SM : Del
SM = gives 19 S M Read S

abbrev MB : Del
MB = gives 20 M B Edit S

abbrev gh : Del
gh = gives 21 G H Edit G

abbrev HG : Del
HG = gives 22 H G Read H

-- what S6 and S12 say
abbrev as_s6 : List Fact
as_s6 = dead AB ∷ standing AB revoked ∷ conveyed AB none ∷ effective S A (some Edit) ∷ effective S B none ∷ members S ((A, Edit) ∷ []) ∷ []

-- before the target of S12's revocation arrives: it covers nothing yet
abbrev before_target : List Fact
before_target = effective S A (some Edit) ∷ members S ((A, Edit) ∷ []) ∷ closure S (SA ∷ []) [] ∷ []

unfoldable pub specimens : List Specimen
specimens =
    -- S1 empty: S over S Admin, members of S none, closure empty.
    record {
      number = 1;
      cases = record {
        certs = [];
        facts = positive S S (some Admin) ∷ effective S S (some Admin) ∷ members S [] ∷ closure S [] [] ∷ [];
      } ∷ [];
    } ∷
    -- S2 S>A Edit/S: A has Edit.
    record {
      number = 2;
      cases = record {
        certs = delegation SA ∷ [];
        facts = positive S A (some Edit) ∷ effective S A (some Edit) ∷ alive SA ∷ members S ((A, Edit) ∷ []) ∷ [];
      } ∷ [];
    } ∷
    -- S3 S2 with A>B Admin/S: B Edit, conveyed Edit.
    record {
      number = 3;
      cases = record {
        certs = delegation SA ∷ delegation AB ∷ [];
        facts = positive S B (some Edit) ∷ effective S B (some Edit) ∷ conveyed AB (some Edit) ∷ members S ((A, Edit) ∷ (B, Edit) ∷ []) ∷ [];
      } ∷ [];
    } ∷
    -- S4 S>G Edit/S, G>M Admin/G: M over S Edit. closure(S) has both, closure(G) the second, closure(M) none.
    record {
      number = 4;
      cases = record {
        certs = delegation SG ∷ delegation GM ∷ [];
        facts = positive S M (some Edit) ∷ effective S M (some Edit) ∷ closure S (SG ∷ GM ∷ []) [] ∷ closure G (GM ∷ []) [] ∷ closure M [] [] ∷ [];
      } ∷ [];
    } ∷
    -- S5 X>B Read/S alone: dead, B none, yet in closure(S).
    record {
      number = 5;
      cases = record {
        certs = delegation XB ∷ [];
        facts = dead XB ∷ standing XB unsupported ∷ conveyed XB none ∷ positive S B none ∷ effective S B none ∷ closure S (XB ∷ []) [] ∷ [];
      } ∷ [];
    } ∷
    -- S6 S3, A revokes A>B: dead, A keeps Edit. The same if B revokes it.
    record {
      number = 6;
      cases =
          record { certs = delegation SA ∷ delegation AB ∷ revocation (revokes 31 A AB) ∷ []; facts = as_s6 } ∷
          record { certs = delegation SA ∷ delegation AB ∷ revocation (revokes 32 B AB) ∷ []; facts = as_s6 } ∷ [];
    } ∷
    -- S7 S3, stranger Z revokes A>B: still live, B Edit.
    record {
      number = 7;
      cases = record {
        certs = delegation SA ∷ delegation AB ∷ revocation (revokes 33 Z AB) ∷ [];
        facts = alive AB ∷ effective S B (some Edit) ∷ conveyed AB (some Edit) ∷ closure S (SA ∷ AB ∷ []) (revokes 33 Z AB ∷ []) ∷ [];
      } ∷ [];
    } ∷
    -- S8 S>A Admin/S, S>B Edit/S, A revokes S>B: dead.
    record {
      number = 8;
      cases = record {
        certs = delegation SA⁺ ∷ delegation SB ∷ revocation (revokes 34 A SB) ∷ [];
        facts = dead SB ∷ standing SB revoked ∷ effective S B none ∷ effective S A (some Admin) ∷ positive S B (some Edit) ∷ [];
      } ∷ [];
    } ∷
    -- S9 S>G Edit/S, G>K Admin/G, G>M Admin/G, S>M Read/S, M>B Edit/S; K revokes M>B.
    -- N is {K, G}; M>B stays live with cap Read; B Read, M Edit.
    record {
      number = 9;
      cases = record {
        certs = delegation SG ∷ delegation GK ∷ delegation GM ∷ delegation SM ∷ delegation MB ∷ revocation (revokes 35 K MB) ∷ [];
        facts = excluding MB (G ∷ K ∷ []) ∷ alive MB ∷ capped MB Read ∷ conveyed MB (some Read) ∷ effective S B (some Read) ∷ effective S M (some Edit) ∷ [];
      } ∷ [];
    } ∷
    -- S10 S9 less S>M: M>B dead.
    record {
      number = 10;
      cases = record {
        certs = delegation SG ∷ delegation GK ∷ delegation GM ∷ delegation MB ∷ revocation (revokes 35 K MB) ∷ [];
        facts = dead MB ∷ standing MB revoked ∷ effective S B none ∷ [];
      } ∷ [];
    } ∷
    -- S11 G>H Edit/G, H>G Read/H: H over G Edit, G over H Read, each Admin over itself.
    record {
      number = 11;
      cases = record {
        certs = delegation gh ∷ delegation HG ∷ [];
        facts = effective G H (some Edit) ∷ effective H G (some Read) ∷ effective G G (some Admin) ∷ effective H H (some Admin) ∷
            positive G H (some Edit) ∷ positive H G (some Read) ∷ positive G G (some Admin) ∷ positive H H (some Admin) ∷ [];
      } ∷ [];
    } ∷
    -- S12 S6's revocation inserted before its target: after the target arrives, as S6.
    record {
      number = 12;
      cases =
          record { certs = delegation SA ∷ revocation (revokes 31 A AB) ∷ []; facts = before_target } ∷
          record { certs = delegation SA ∷ revocation (revokes 31 A AB) ∷ delegation AB ∷ []; facts = as_s6 } ∷
          record { certs = delegation SA ∷ revocation (revokes 32 B AB) ∷ []; facts = before_target } ∷
          record { certs = delegation SA ∷ revocation (revokes 32 B AB) ∷ delegation AB ∷ []; facts = as_s6 } ∷ [];
    } ∷
    []
