-- What a node tells where its replica refuses an entry, by the cause.
use Rattle.std.proofs.Common.{◌≡◌, ℕ, Option, Result, Err, IsErrOf, List, refl, sym, ap, subst, ◌∙◌}
use Rattle.cs_base.specs.declared.ids.ReqId.{ReqId}
use Rattle.changes.specs.declared.Partition.{Partition}
use Rattle.peer_messages.specs.declared.chronicle.Entry.{Entry}
use Rattle.replica.specs.declared.error.CallError.{CallError}
use Rattle.replica.specs.declared.error.CallError.TheVariants as call_error
use Rattle.replica.specs.declared.error.RoomError.{RoomError}
use Rattle.replica.specs.declared.error.RoomError.TheVariants as room_error
use Rattle.node_core.specs.declared.outcome.Lost.{Lost}
use Rattle.node_core.specs.declared.outcome.StepError.{StepError}
use Rattle.node_core.specs.declared.outcome.StepError.TheVariants.{Failed, NoRoom, TooLarge, NoMemory}
use Rattle.node_core.specs.Memory.{IsLost, IsRefusal}
use Rattle.node_core.proofs.Answered.{NotFailed, Told}

failed_room : (l : Lost) → Failed l ≡ NoRoom → ⊥
failed_room l e = cc

large_room : (p : Partition) → TooLarge p ≡ NoRoom → ⊥
large_room p e = cc

pub memory_room : NoMemory ≡ NoRoom → ⊥
memory_room e = cc

failed_large : (l : Lost) (p : Partition) → Failed l ≡ TooLarge p → ⊥
failed_large l p e = cc

pub memory_large : (p : Partition) → NoMemory ≡ TooLarge p → ⊥
memory_large p e = cc

pub failed_memory : (l : Lost) → Failed l ≡ NoMemory → ⊥
failed_memory l e = cc

one_large : (p q : Partition) → TooLarge p ≡ TooLarge q → p ≡ q
one_large p q e = cc

one_lost : (k l : Lost) → Failed k ≡ Failed l → k ≡ l
one_lost k l e = cc

room_errors : room_error.NoMemory ≡ room_error.Failed → ⊥
room_errors e = cc

told_room : (a b : RoomError) → (let r : Result ℕ RoomError = Err a in IsErrOf r b) → a ≡ b
told_room a b h = cc

pub call_failed : (e : CallError) (told : RoomError) → (e ≡ call_error.NoMemory → told ≡ room_error.NoMemory) → (let r : Result ℕ RoomError = Err told in IsErrOf r room_error.Failed) → e ≡ call_error.Failed
call_failed call_error.Failed told no_memory failed = refl
call_failed call_error.NoMemory told no_memory failed =
    let x : told ≡ room_error.Failed = one_room told room_error.Failed failed in
    absurd (room_errors (sym (no_memory refl) ∙ x))
  where
    one_room : (a b : RoomError) → (let r : Result ℕ RoomError = Err a in IsErrOf r b) → a ≡ b
    one_room a b h = cc

pub told_one : (a b : StepError) → (let r : Told = Err a in IsErrOf r b) → a ≡ b
told_one a b h = cc

pub no_room_cause : (started : Option ReqId) (entries : List Entry) (e : RoomError) (told : StepError) → IsRefusal e started entries told → told ≡ NoRoom → e ≡ room_error.NoRoom
no_room_cause started entries room_error.Failed told (l, tells, lost) h = let x : Failed l ≡ NoRoom = sym tells ∙ h in absurd (failed_room l x)
no_room_cause started entries (room_error.TooLarge p) told tells h = let x : TooLarge p ≡ NoRoom = sym tells ∙ h in absurd (large_room p x)
no_room_cause started entries room_error.NoRoom told tells h = refl
no_room_cause started entries room_error.NoMemory told tells h = let x : NoMemory ≡ NoRoom = sym tells ∙ h in absurd (memory_room x)

pub large_cause : (started : Option ReqId) (entries : List Entry) (e : RoomError) (told : StepError) (p : Partition) → IsRefusal e started entries told → told ≡ TooLarge p → e ≡ room_error.TooLarge p
large_cause started entries room_error.Failed told p (l, tells, lost) h = let x : Failed l ≡ TooLarge p = sym tells ∙ h in absurd (failed_large l p x)
large_cause started entries (room_error.TooLarge q) told p tells h = let x : TooLarge q ≡ TooLarge p = sym tells ∙ h in ap (λ (y : Partition). room_error.TooLarge y) (one_large q p x)
large_cause started entries room_error.NoRoom told p tells h = let x : NoRoom ≡ TooLarge p = sym tells ∙ h in absurd (large_room p (sym x))
large_cause started entries room_error.NoMemory told p tells h = let x : NoMemory ≡ TooLarge p = sym tells ∙ h in absurd (memory_large p x)

pub failed_cause : (started : Option ReqId) (entries : List Entry) (e : RoomError) (told : StepError) (l : Lost) → IsRefusal e started entries told → told ≡ Failed l → (e ≡ room_error.Failed) × IsLost started entries l
failed_cause started entries room_error.Failed told l (k, tells, lost) h = let x : Failed k ≡ Failed l = sym tells ∙ h in (refl, subst (λ (y : Lost). IsLost started entries y) (one_lost k l x) lost)
failed_cause started entries (room_error.TooLarge p) told l tells h = let x : Failed l ≡ TooLarge p = sym h ∙ tells in absurd (failed_large l p x)
failed_cause started entries room_error.NoRoom told l tells h = let x : Failed l ≡ NoRoom = sym h ∙ tells in absurd (failed_room l x)
failed_cause started entries room_error.NoMemory told l tells h = let x : Failed l ≡ NoMemory = sym h ∙ tells in absurd (failed_memory l x)

-- where the node goes on, its replica did not fail
pub fine : {T : Type 0} (started : Option ReqId) (entries : List Entry) (e : RoomError) (told : StepError) → IsRefusal e started entries told → (let r : Told = Err told in NotFailed r) → IsErrOf {T = T} (Err e) room_error.Failed → ⊥
fine {T} started entries e told is fine_on h = fine_by started entries e told is fine_on (same_error h)
  where
    same_error : {a b : RoomError} → IsErrOf {T = T} (Err a) b → a ≡ b
    same_error {a} {b} x = cc

    fine_by : (started : Option ReqId) (entries : List Entry) (e : RoomError) (told : StepError) → IsRefusal e started entries told → (let r : Told = Err told in NotFailed r) → e ≡ room_error.Failed → ⊥
    fine_by started entries room_error.Failed told (l, tells, lost) on x = on l (ap (λ (y : StepError). let r : Told = Err y in r) tells)
    fine_by started entries (room_error.TooLarge p) told tells on x = cc
    fine_by started entries room_error.NoRoom told tells on x = cc
    fine_by started entries room_error.NoMemory told tells on x = cc

pub unit_error_of : (a b : RoomError) → (let r : Result Unit RoomError = Err a in IsErrOf r b) → a ≡ b
unit_error_of a b h = cc

pub call_error_of : (a b : CallError) → (let r : Result ℕ CallError = Err a in IsErrOf r b) → a ≡ b
call_error_of a b h = cc

pub call_errors : call_error.NoMemory ≡ call_error.Failed → ⊥
call_errors e = cc

-- a call that failed, or that lacked memory, tells of no room
pub call_memory : (e : CallError) (told : RoomError) → (e ≡ call_error.Failed → told ≡ room_error.Failed) → ((let r : Result ℕ RoomError = Err told in IsErrOf r room_error.Failed) → ⊥) → e ≡ call_error.NoMemory
call_memory call_error.Failed told failed fine = absurd (fine (ap (λ (x : RoomError). let r : Result ℕ RoomError = Err x in r) (failed refl)))
call_memory call_error.NoMemory told failed fine = refl

pub call_told : (e : CallError) (told x : RoomError) → (e ≡ call_error.Failed → told ≡ room_error.Failed) → (e ≡ call_error.NoMemory → told ≡ room_error.NoMemory) → (room_error.Failed ≡ x → ⊥) → (room_error.NoMemory ≡ x → ⊥)
    → (let r : Result ℕ RoomError = Err told in IsErrOf r x) → ⊥
call_told call_error.Failed told x failed no_memory not_failed not_memory h = not_failed (sym (failed refl) ∙ told_room told x h)
call_told call_error.NoMemory told x failed no_memory not_failed not_memory h = not_memory (sym (no_memory refl) ∙ told_room told x h)

pub failed_no_room : room_error.Failed ≡ room_error.NoRoom → ⊥
failed_no_room e = cc

pub failed_not_large : (p : Partition) → room_error.Failed ≡ room_error.TooLarge p → ⊥
failed_not_large p e = cc

pub memory_not_failed : room_error.NoMemory ≡ room_error.Failed → ⊥
memory_not_failed e = cc

pub memory_no_room : room_error.NoMemory ≡ room_error.NoRoom → ⊥
memory_no_room e = cc

pub memory_not_large : (p : Partition) → room_error.NoMemory ≡ room_error.TooLarge p → ⊥
memory_not_large p e = cc
