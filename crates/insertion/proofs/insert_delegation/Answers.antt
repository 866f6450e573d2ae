-- The answer is the one on what is committed; where it is Added, the three keys are in the table and each column has the new row.
use Prim.Native.Nat.{ℕ, ◌+◌, ◌<◌}
use mathlib.Core.Path.{◌≡◌, refl, sym, ap, ◌∙◌}
use mathlib.Core.Bool.{Bool, not}
use mathlib.Core.List.{List, [], ◌∷◌}
use native.Mathlib.Omega.{arith}
use lib.ListN.{length, take, drop, set}
use lib.Dec.{eqb}
use Rattle.runs.specs.Bytes.{Bytes}
use Rattle.keyline.specs.Limits.{key_length, delegation_limit}
use Rattle.tables.specs.Committed.{Delegation}
use Rattle.tables.specs.Insertion.{Seen, delegation_from, delegation_answer, delegation_added, with_delegation}
use Rattle.tables.specs.Look.{delegation_there}
use Rattle.store.specs.Store.{committed}
use Rattle.power_levels.specs.declared.power.Power.{Power}
use Rattle.std.specs.Prelude.{Ok}
use Rattle.codec.specs.Delegation.{found, decoded, citation_of}
use Rattle.tables.proofs.PayloadLaws.{Cited, parts}
use Rattle.tables.proofs.PayloadLaws as payload
use Rattle.store.proofs.ViewLaws.{row_fits}
use Rattle.insertion.proofs.AnswerLaws.{DelegationAdded, delegation_added_lem, delegation_seen}
use Rattle.insertion.proofs.KeyLaws.{KeyRoom, can_intern, rest_room, three_keys, first_stands, second_stands, third_stands}
use Rattle.insertion.proofs.NextLaws.{Parts, DelegationPushed, delegation_next, delegation_good}
use Rattle.insertion.proofs.InsertionLaws.{is_added_lem, added, room_for, key_room, cited_long, cited_before, cited_here}
use Rattle.insertion.proofs.insert_delegation.Goals.{After-intern-i, After-is_added, After-push, Else-not-is_added}
use Rattle.insertion.proofs.insert_delegation.Goals as goal

there : Else-not-is_added → Seen Delegation
there c =
    let s = c.args.store.now in
    delegation_there s.keys.table s.keys.count s.delegations.citation s.delegations.count c.find-at.result c.row-row.result

facts : (c : Else-not-is_added) → DelegationAdded (let s = c.args.store.now in
    delegation_there s.keys.table s.keys.count s.delegations.citation s.delegations.count c.find-at.result c.row-row.result) c.args.digest.now c.args.issuer.now c.args.payload.now
unfolding there
facts c =
    delegation_added_lem (let s = c.args.store.now in
    delegation_there s.keys.table s.keys.count s.delegations.citation s.delegations.count c.find-at.result c.row-row.result) c.args.digest.now c.args.issuer.now c.args.payload.now
    (sym c.delegation_answer-answer.ensures ∙ is_added_lem _ (sym c.is_added.ensures ∙ c.if-not-is_added.false))

-- the payload's parts
part : (c : Else-not-is_added) → payload.Parts c.args.payload.now
part c = let f = facts c in parts c.args.payload.now f.power f.tag f.read

-- the audience and the subject
others : Bytes → List Bytes
others p = take key_length p ∷ take key_length (drop key_length p) ∷ []

room : (c : Else-not-is_added) → KeyRoom c.args.store.now.keys.table c.args.store.now.keys.count (c.args.issuer.now ∷ others c.args.payload.now)
unfolding there others
room c =
    key_room c.args.store.now.keys.table c.args.store.now.keys.count (c.args.issuer.now ∷ others c.args.payload.now) c.args.store.now.good.keys (facts c).keys

-- room for the subject once the issuer is in
room-2 : (c : After-intern-i) → length c.args.issuer.now ≡ key_length → KeyRoom c.args.store.now.keys.table c.args.store.now.keys.count (c.args.issuer.now ∷ others c.args.payload.now)
    → KeyRoom c.intern-i.new.table c.intern-i.result.count (others c.args.payload.now)
room-2 c long r =
    rest_room c.args.store.now.keys.table c.args.store.now.keys.count c.args.store.now.good.keys c.args.issuer.now (others c.args.payload.now) long r
    c.intern-i.new.table c.intern-i.result c.intern-i.ensures

answered : (c : After-is_added) → c.delegation_answer-answer.result ≡ delegation_answer (committed c.args.store.now) c.args.digest.now c.args.issuer.now c.args.payload.now
answered c =
    c.delegation_answer-answer.ensures
    ∙ rw c.row-row.ensures (delegation_seen c.args.store.now c.args.store.now.good c.args.digest.now c.find-at.result c.find-at.ensures c.args.issuer.now c.args.payload.now)

pub delegation_answer-answer-requires : goal.delegation_answer-answer-requires
delegation_answer-answer-requires c =
    (c.args.store.now.good.keys, λ h. rw c.row-row.ensures (row_fits c.args.store.now c.args.store.now.good c.find-at.result h))

pub intern-i-requires : goal.intern-i-requires
intern-i-requires c =
    can_intern c.args.store.now.keys.table c.args.store.now.keys.count c.args.store.now.good.keys c.args.issuer.now (others c.args.payload.now) (facts (goal.at.intern-i-requires c).Else-not-is_added).issuer (room (goal.at.intern-i-requires c).Else-not-is_added)

pub slice_bounds-intern-end-3 : goal.slice_bounds-intern-end-3
slice_bounds-intern-end-3 c = let q = (part (goal.at.slice_bounds-intern-end-3 c).Else-not-is_added).long in omega arith

pub intern-a-requires : goal.intern-a-requires
unfolding others
intern-a-requires c =
    let p = c.args.payload.now in
    let i = c.intern-i in
    can_intern i.new.table i.result.count i.ensures.good (take key_length p) (take key_length (drop key_length p) ∷ []) (part (goal.at.intern-a-requires c).Else-not-is_added).audience (room-2 (goal.at.intern-a-requires c).After-intern-i (facts (goal.at.intern-a-requires c).Else-not-is_added).issuer (room (goal.at.intern-a-requires c).Else-not-is_added))

pub slice_bounds-intern-end-5 : goal.slice_bounds-intern-end-5
slice_bounds-intern-end-5 c = let q = (part (goal.at.slice_bounds-intern-end-5 c).Else-not-is_added).long in omega arith

pub intern-u-requires : goal.intern-u-requires
unfolding others
intern-u-requires c =
    let p = c.args.payload.now in
    let i = c.intern-i in
    let a = c.intern-a in
    can_intern a.new.table a.result.count a.ensures.good (take key_length (drop key_length p)) [] (part (goal.at.intern-u-requires c).Else-not-is_added).subject
    (rest_room i.new.table i.result.count i.ensures.good (take key_length p) (take key_length (drop key_length p) ∷ []) (part (goal.at.intern-u-requires c).Else-not-is_added).audience (room-2 (goal.at.intern-u-requires c).After-intern-i (facts (goal.at.intern-u-requires c).Else-not-is_added).issuer (room (goal.at.intern-u-requires c).Else-not-is_added)) a.new.table a.result a.ensures)

pub set_key-requires : goal.set_key-requires
unfolding there
set_key-requires c =
    let i = c.intern-i.ensures in
    let a = i.within in
    let b = i.good.room in
    (c.args.store.now.good.delegations.issuer.long, (facts (goal.at.set_key-requires c).Else-not-is_added).room, omega arith)

pub set_key-requires-2 : goal.set_key-requires-2
unfolding there
set_key-requires-2 c =
    let i = c.intern-a.ensures in
    let a = i.within in
    let b = i.good.room in
    (c.args.store.now.good.delegations.audience.long, (facts (goal.at.set_key-requires-2 c).Else-not-is_added).room, omega arith)

pub set_key-requires-3 : goal.set_key-requires-3
unfolding there
set_key-requires-3 c =
    let i = c.intern-u.ensures in
    let a = i.within in
    let b = i.good.room in
    (c.args.store.now.good.delegations.subject.long, (facts (goal.at.set_key-requires-3 c).Else-not-is_added).room, omega arith)

pub set_rank-requires : goal.set_rank-requires
unfolding there
set_rank-requires c = (c.args.store.now.good.delegations.power.long, (facts (goal.at.set_rank-requires c).Else-not-is_added).room)

pub set_flag-requires : goal.set_flag-requires
unfolding there
set_flag-requires c = (c.args.store.now.good.delegations.cited, (facts (goal.at.set_flag-requires c).Else-not-is_added).room)

pub put_citation-requires : goal.put_citation-requires
unfolding there
put_citation-requires c = (c.args.store.now.good.delegations.citation, (facts (goal.at.put_citation-requires c).Else-not-is_added).room)

pub push-requires : goal.push-requires
unfolding there
push-requires c =
    let f = facts (goal.at.push-requires c).Else-not-is_added in
    room_for delegation_limit c.args.store.now.delegations.digests c.args.store.now.delegations.count c.args.digest.now c.find-at.result.0 c.args.store.now.good.delegations.digests (omega arith) f.room f.digest c.find-at.ensures f.new

-- the parts of the store once all is written
next : After-push → Parts
next c = record {
  keys = record { table = c.intern-u.new.table; count = c.intern-u.result.count };
  delegations = record {
    digests = c.push.new.table;
    count = c.args.store.now.delegations.count + 1;
    issuer = c.set_key.new.column;
    audience = c.set_key-2.new.column;
    subject = c.set_key-3.new.column;
    power = c.set_rank.new.column;
    cited = c.set_flag.new.column;
    citation = c.put_citation.new.column;
  };
  revocations = c.args.store.now.revocations;
  version = c.args.store.now.version + 1;
}

pushed : (c : After-push) → c.args.store.now.delegations.count < delegation_limit → (w : Power) (t : Bool) → decoded c.args.payload.now ≡ Ok (found w t) → Cited (citation_of c.args.payload.now)
    → DelegationPushed c.args.store.now (next c) (delegation_from c.args.digest.now c.args.issuer.now c.args.payload.now w)
unfolding next
pushed c room w t read cited =
    let st = c.args.store.now in
    let i = c.args.issuer.now in
    let p = c.args.payload.now in
    let n = st.delegations.count in
    let k1 = c.intern-i in
    let k2 = c.intern-a in
    let k3 = c.intern-u in
    let x = c.citation-citation.result.now in
    let col = st.delegations.citation in
    let l = st.good.delegations.citation in
    let a = take key_length p in
    let b = take key_length (drop key_length p) in
    record {
      keys = three_keys st.keys.table k1.new.table k2.new.table k3.new.table st.keys.count i a b k1.result k2.result k3.result k1.ensures k2.ensures k3.ensures;
      digests = c.push.ensures;
      room = room;
      count = refl;
      issuer = record {
        place = k1.result.place;
        is_set = c.set_key.ensures;
        stands = first_stands st.keys.table k1.new.table k2.new.table k3.new.table st.keys.count i a b k1.result k2.result k3.result k1.ensures k2.ensures k3.ensures;
      };
      audience = record {
        place = k2.result.place;
        is_set = c.set_key-2.ensures;
        stands = second_stands st.keys.table k1.new.table k2.new.table k3.new.table st.keys.count i a b k1.result k2.result k3.result k1.ensures k2.ensures k3.ensures;
      };
      subject = record {
        place = k3.result.place;
        is_set = c.set_key-3.ensures;
        stands = third_stands st.keys.table k1.new.table k2.new.table k3.new.table st.keys.count i a b k1.result k2.result k3.result k1.ensures k2.ensures k3.ensures;
      };
      power = c.set_rank.ensures ∙ ap (λ (r : ℕ). set st.delegations.power n r) (c.rank_of.ensures ∙ rw read);
      flag = not (eqb (length x) 0);
      cited = c.set_flag.ensures;
      long = rw c.put_citation.ensures (cited_long delegation_limit n col l room x);
      before = λ j q. rw c.put_citation.ensures (cited_before delegation_limit n col l room x j q);
      citation = rw c.put_citation.ensures (cited_here delegation_limit n col l room x (rw c.citation-citation.ensures cited) ∙ c.citation-citation.ensures);
      revocations = refl;
      version = refl;
    }

pub invariant_of-store-2 : goal.invariant_of-store-2
unfolding there next
invariant_of-store-2 c =
    let st = c.args.store.now in
    let e = (goal.at.invariant_of-store-2 c).Else-not-is_added in
    let f = facts e in
    let p = (goal.at.invariant_of-store-2 c).After-push in
    record {
      good = delegation_good st (next p) st.good (delegation_from c.args.digest.now c.args.issuer.now c.args.payload.now f.power) (pushed p f.room f.power f.tag f.read (part e).citation);
    }

pub returns-then-not-is_added-clause-answer : goal.returns-then-not-is_added-clause-answer
returns-then-not-is_added-clause-answer c = answered (goal.at.returns-then-not-is_added-clause-answer c).After-is_added

pub returns-clause-answer : goal.returns-clause-answer
returns-clause-answer c = answered (goal.at.returns-clause-answer c).After-is_added

pub returns-clause-held : goal.returns-clause-held
unfolding there next
returns-clause-held c =
    let st = c.args.store.now in
    let d = c.args.digest.now in
    let i = c.args.issuer.now in
    let x = c.args.payload.now in
    let e = (goal.at.returns-clause-held c).Else-not-is_added in
    let f = facts e in
    let p = (goal.at.returns-clause-held c).After-push in
    let g = delegation_from d i x f.power in
    let with : with_delegation (committed st) g ≡ delegation_added (committed st) d i x = rw f.read in
    added c.delegation_answer-answer.result (committed st) _ _ (sym c.is_added.ensures ∙ c.if-not-is_added.false)
    (delegation_next st (next p) st.good g (pushed p f.room f.power f.tag f.read (part e).citation) ∙ with)
