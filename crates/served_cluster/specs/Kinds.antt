-- What the kinds of things that a served run has tell of themselves.
use Rattle.std.specs.Prelude.{ℕ, List, Option}
use Rattle.cs_store.specs.Disk.{Disk}
use Rattle.durable_state.specs.State.{Durable}
use Rattle.served_stores.specs.Loading.{Keeper}

-- a kind of replica: whether its disk is honest, what files stand for, what it keeps, whether it is whole, its log, what its disk has,
-- and how often that failed
pub record ReplicaKind (R : Type 0) : Type 1 where
  pub is_honest : Type 0
  pub stands_for : (ℕ → List ℕ) → Durable → Type 0
  pub durable : R → Durable
  pub is_whole : R → Type 0
  pub log_end : R → ℕ
  pub since_flush : R → Option ℕ
  pub disk : R → Disk
  pub faults : R → ℕ

abbrev pub kind_of_replica : {R K : Type 0} → Type 0 → ((ℕ → List ℕ) → Durable → Type 0) → (R → Durable) → (R → Type 0) → (R → ℕ) → (R → Option ℕ) → (R → K) → (K → Disk) → (K → ℕ) → ReplicaKind R
kind_of_replica is_honest stands_for durable is_whole log_end since_flush store disk faults = record {
  is_honest = is_honest;
  stands_for = stands_for;
  durable = durable;
  is_whole = is_whole;
  log_end = log_end;
  since_flush = since_flush;
  disk = λ r. disk (store r);
  faults = λ r. faults (store r);
}

abbrev pub keeper_of : {R : Type 0} → ReplicaKind R → Keeper R
keeper_of r = record {
  is_honest = r.is_honest;
  stands_for = r.stands_for;
  durable = r.durable;
  is_whole = r.is_whole;
  seen = λ x. (r.disk x).seen;
  faults = r.faults;
}

-- a kind of door and of its links: what a door gave, which links came back, how often it failed, and what links read and write
pub record DoorKind (D L : Type 0) : Type 0 where
  pub given : D → Option ℕ
  pub returned : D → Option (List L)
  pub faults : D → ℕ
  pub remaining : L → Option (List ℕ)
  pub written : L → Option (List ℕ)
  pub link_faults : L → ℕ

abbrev pub kind_of_door : {D L : Type 0} → (D → Option ℕ) → (D → Option (List L)) → (D → ℕ) → (L → Option (List ℕ)) → (L → Option (List ℕ)) → (L → ℕ) → DoorKind D L
kind_of_door given returned faults remaining written link_faults = record {
  given = given;
  returned = returned;
  faults = faults;
  remaining = remaining;
  written = written;
  link_faults = link_faults;
}

-- the kinds of the console's source and sink: what is left of the one, what the other has, and how often each failed
pub record StreamKind (S T : Type 0) : Type 0 where
  pub remaining : S → Option (List ℕ)
  pub source_faults : S → ℕ
  pub contents : T → Option (List ℕ)
  pub sink_faults : T → ℕ

abbrev pub kind_of_streams : {S T : Type 0} → (S → Option (List ℕ)) → (S → ℕ) → (T → Option (List ℕ)) → (T → ℕ) → StreamKind S T
kind_of_streams remaining source_faults contents sink_faults = record {
  remaining = remaining;
  source_faults = source_faults;
  contents = contents;
  sink_faults = sink_faults;
}
