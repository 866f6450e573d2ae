-- The answer is the one on what is committed; where it is Added, each table has the new row.
use Prim.Native.Nat.{◌+◌, ◌<◌}
use mathlib.Core.Path.{◌≡◌, refl, sym, ◌∙◌}
use mathlib.Core.List.{[], ◌∷◌}
use native.Mathlib.Omega.{arith}
use lib.ListN.{length}
use Rattle.keyline.specs.Limits.{revocation_limit, digest_length}
use Rattle.tables.specs.Committed.{Revocation}
use Rattle.tables.specs.Insertion.{Seen, revocation_from, revocation_answer, revocation_added}
use Rattle.tables.specs.Look.{revocation_there}
use Rattle.store.specs.Store.{committed}
use Rattle.store.proofs.ViewLaws.{revocation_fits}
use Rattle.insertion.proofs.AnswerLaws.{RevocationAdded, revocation_added_lem, revocation_seen}
use Rattle.insertion.proofs.KeyLaws.{KeyRoom, can_intern, one_key, stands}
use Rattle.insertion.proofs.NextLaws.{Parts, RevocationPushed, revocation_next, revocation_good}
use Rattle.insertion.proofs.InsertionLaws.{is_added_lem, added, room_for, key_room, column_long, column_before, column_here}
use Rattle.insertion.proofs.insert_revocation.Goals.{After-is_added, After-push, Else-not-is_added}
use Rattle.insertion.proofs.insert_revocation.Goals as goal

there : Else-not-is_added → Seen Revocation
there c =
    let s = c.args.store.now in
    revocation_there s.keys.table s.keys.count s.revocations.revoked s.revocations.count c.find-at.result c.key_at-by.result

facts : (c : Else-not-is_added) → RevocationAdded (let s = c.args.store.now in
    revocation_there s.keys.table s.keys.count s.revocations.revoked s.revocations.count c.find-at.result c.key_at-by.result) c.args.digest.now c.args.issuer.now c.args.revoked.now
unfolding there
facts c =
    revocation_added_lem (let s = c.args.store.now in
    revocation_there s.keys.table s.keys.count s.revocations.revoked s.revocations.count c.find-at.result c.key_at-by.result) c.args.digest.now c.args.issuer.now c.args.revoked.now
    (sym c.revocation_answer-answer.ensures ∙ is_added_lem _ (sym c.is_added.ensures ∙ c.if-not-is_added.false))

room : (c : Else-not-is_added) → KeyRoom c.args.store.now.keys.table c.args.store.now.keys.count (c.args.issuer.now ∷ [])
unfolding there
room c = key_room c.args.store.now.keys.table c.args.store.now.keys.count (c.args.issuer.now ∷ []) c.args.store.now.good.keys (facts c).keys

answered : (c : After-is_added) → c.revocation_answer-answer.result ≡ revocation_answer (committed c.args.store.now) c.args.digest.now c.args.issuer.now c.args.revoked.now
answered c =
    c.revocation_answer-answer.ensures
    ∙ rw c.key_at-by.ensures (revocation_seen c.args.store.now c.args.store.now.good c.args.digest.now c.find-at.result c.find-at.ensures c.args.issuer.now c.args.revoked.now)

pub revocation_answer-answer-requires : goal.revocation_answer-answer-requires
revocation_answer-answer-requires c =
    (c.args.store.now.good.keys, λ h. revocation_fits c.args.store.now c.args.store.now.good c.find-at.result c.key_at-by.result (rw c.key_at-by.ensures) h)

pub intern-i-requires : goal.intern-i-requires
intern-i-requires c =
    can_intern c.args.store.now.keys.table c.args.store.now.keys.count c.args.store.now.good.keys c.args.issuer.now [] (facts (goal.at.intern-i-requires c).Else-not-is_added).issuer (room (goal.at.intern-i-requires c).Else-not-is_added)

pub set_key-requires : goal.set_key-requires
unfolding there
set_key-requires c =
    let i = c.intern-i.ensures in
    let a = i.within in
    let b = i.good.room in
    (c.args.store.now.good.revocations.issuer.long, (facts (goal.at.set_key-requires c).Else-not-is_added).room, omega arith)

pub put_revoked-requires : goal.put_revoked-requires
unfolding there
put_revoked-requires c = (c.args.store.now.good.revocations.revoked, (facts (goal.at.put_revoked-requires c).Else-not-is_added).room, (facts (goal.at.put_revoked-requires c).Else-not-is_added).revoked)

pub push-requires : goal.push-requires
unfolding there
push-requires c =
    let f = facts (goal.at.push-requires c).Else-not-is_added in
    room_for revocation_limit c.args.store.now.revocations.digests c.args.store.now.revocations.count c.args.digest.now c.find-at.result.0 c.args.store.now.good.revocations.digests (omega arith) f.room f.digest c.find-at.ensures f.new

-- the parts of the store once all is written
next : After-push → Parts
next c = record {
  keys = record { table = c.intern-i.new.table; count = c.intern-i.result.count };
  delegations = c.args.store.now.delegations;
  revocations = record { digests = c.push.new.table; count = c.args.store.now.revocations.count + 1; issuer = c.set_key.new.column; revoked = c.put_revoked.new.column };
  version = c.args.store.now.version + 1;
}

pushed : (c : After-push) → c.args.store.now.revocations.count < revocation_limit → length c.args.revoked.now ≡ digest_length
    → RevocationPushed c.args.store.now (next c) (revocation_from c.args.digest.now c.args.issuer.now c.args.revoked.now)
unfolding next
pushed c room long =
    let st = c.args.store.now in
    let x = c.args.revoked.now in
    let n = st.revocations.count in
    let l = st.good.revocations.revoked in
    record {
      keys = one_key st.keys.table c.intern-i.new.table st.keys.count c.args.issuer.now c.intern-i.result c.intern-i.ensures;
      digests = c.push.ensures;
      room = room;
      count = refl;
      issuer = record { place = c.intern-i.result.place; is_set = c.set_key.ensures; stands = stands st.keys.table c.intern-i.new.table st.keys.count c.args.issuer.now c.intern-i.result c.intern-i.ensures };
      long = rw c.put_revoked.ensures (column_long revocation_limit n st.revocations.revoked l room x long);
      before = λ j p. rw c.put_revoked.ensures (column_before revocation_limit n st.revocations.revoked l room x long j p);
      revoked = rw c.put_revoked.ensures (column_here revocation_limit n st.revocations.revoked l room x long);
      delegations = refl;
      version = refl;
    }

pub invariant_of-store-2 : goal.invariant_of-store-2
unfolding there next
invariant_of-store-2 c =
    let st = c.args.store.now in
    let f = facts (goal.at.invariant_of-store-2 c).Else-not-is_added in
    let p = (goal.at.invariant_of-store-2 c).After-push in
    record { good = revocation_good st (next p) st.good (revocation_from c.args.digest.now c.args.issuer.now c.args.revoked.now) (pushed p f.room f.revoked) }

pub returns-then-not-is_added-clause-answer : goal.returns-then-not-is_added-clause-answer
returns-then-not-is_added-clause-answer c = answered (goal.at.returns-then-not-is_added-clause-answer c).After-is_added

pub returns-clause-answer : goal.returns-clause-answer
returns-clause-answer c = answered (goal.at.returns-clause-answer c).After-is_added

pub returns-clause-held : goal.returns-clause-held
unfolding there next
returns-clause-held c =
    let st = c.args.store.now in
    let v = revocation_from c.args.digest.now c.args.issuer.now c.args.revoked.now in
    let f = facts (goal.at.returns-clause-held c).Else-not-is_added in
    let p = (goal.at.returns-clause-held c).After-push in
    added c.revocation_answer-answer.result (committed st) _ _ (sym c.is_added.ensures ∙ c.if-not-is_added.false) (revocation_next st (next p) st.good v (pushed p f.room f.revoked))
