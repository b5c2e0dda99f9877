-- What the parts of nodes tell of the nodes, and what is back where these parts are.
use Rattle.std.proofs.Common.{◌≡◌, ℕ, ◌+◌, ◌*◌, ◌<◌, ◌≤◌, Bool, not, Ok, Err, Some, None, List, [], ◌∷◌, length, map, sym, ap, subst, ◌∙◌, arith}
use Rattle.std.specs.Prelude.{IfOk, IfSome, Option, Result, Vec}
use Rattle.std.specs.List.{AllZip, list_any, position}
use Rattle.std.specs.declared.alloc.Global.{Global}
use Rattle.cs_base.specs.Faults.{HasRisen}
use Rattle.durable_state.specs.State.{Durable, IsSameKept}
use Rattle.replica.specs.Finding.{StandFor}
use Rattle.node_core.specs.declared.node.Node.{Node}
use Rattle.wired_node.specs.States.{Wiring}
use Rattle.wired_node.specs.declared.entry.NodeEntry.{NodeEntry}
use Rattle.served_assembly.specs.Parting.{AreParted, IsApart, doors_in, ends_left}
use Rattle.served_assembly.specs.declared.parting.Apart.{Apart}
use Rattle.served_assembly.specs.declared.parting.Parted.{Parted}
use Rattle.served_console.specs.declared.end.ConsoleEnd.{ConsoleEnd}
use Rattle.served_doors.specs.Ledger.{Ledger, TakesBack, by_node}
use Rattle.served_links.specs.Ends.{EachLink, AreEven}
use Rattle.served_links.specs.Nodes.{NodeEnds, AreEnds, AreSettled, ends_of}
use Rattle.served_links.specs.declared.ends.NodeLinks.{NodeLinks}
use Rattle.served_nodes.specs.declared.node.NodeLeft.{NodeLeft}
use Rattle.served_stores.specs.Releasing.{AreBackFrom}
use Rattle.served_stores.specs.Shown.{Shown, IsSameAt}
use Rattle.served_cluster.specs.Ends.{told_of}
use Rattle.served_cluster.specs.declared.ending.ServedEnd.{ServedEnd}
use Rattle.served_cluster.specs.Giving.{ArePartsOf, AreCounted, CanPart, HasDoors, IsGivenBack, lacks_door, lacks_thread}
use Rattle.served_cluster.specs.Kinds.{ReplicaKind}
use Rattle.served_cluster.specs.Served.{AreHomeFrom, has_failed, is_full}
use Rattle.served_cluster.proofs.Doors.{back_but, by_node_all, by_node_long}
use Rattle.served_cluster.proofs.Lists.{at_position, same_any, same_position, within}
use Rattle.served_cluster.proofs.Zips.{map_long, map_map, zip_back, zip_long, zip_map, zip_on, zip_same, zip_to}

-- files that are what a whole replica's disk has stand for what it keeps
abbrev pub StaysSafe : {R : Type 0} → ReplicaKind R → Type 0
StaysSafe {R} r = (x : R) → r.is_honest → r.is_whole x → (files : ℕ → List ℕ) → ((k : ℕ) → files k ≡ (r.disk x).seen k) → StandFor r.stands_for (IsSameKept (r.durable x)) files

pub place_within : {A : Type 0} (f : A → Bool) (xs : List A) (o : Option ℕ) → o ≡ position f xs → IfSome o (λ n. n < length xs)
place_within f xs None is = tt
place_within f xs (Some n) is = let found = at_position f xs n (sym is) in within xs n found.0 found.1

-- these doors are those of its jobs
abbrev HasItsDoors : {R D : Type 0} → NodeLeft (Wiring R) D NodeEntry → Vec D Global → Type 0
HasItsDoors x v = v.items ≡ doors_in x.jobs.items

module _ {R K D : Type 0} (r : ReplicaKind R) where
  abbrev Of : NodeLeft (Wiring R) D NodeEntry → Apart R D K → Type 0
  Of = IsApart r.is_whole r.durable r.log_end r.since_flush r.faults r.is_honest

  abbrev node_in : Apart R D K → Node R K
  node_in a = a.node

  abbrev links_in : Apart R D K → NodeLinks
  links_in a = a.links

  abbrev doors_of : Apart R D K → Vec D Global
  doors_of a = a.doors

  pub parts_told : {E : Type 0} (left : List (NodeLeft (Wiring R) D NodeEntry)) (aparts : List (Apart R D K)) (result : Result (Parted R D K) E) → AllZip Of left aparts → IfOk result (λ p. AreParted aparts p)
      → IfOk result (λ p. ArePartsOf r left p)
  parts_told left aparts (Ok p) zip parted = record { aparts = aparts; apart = zip; parted_are = parted }
  parts_told left aparts (Err e) zip parted = tt

  module _ (left : List (NodeLeft (Wiring R) D NodeEntry)) (parted : Parted R D K) (of : ArePartsOf r left parted) where
    -- ---- what stands in the lists

    count_nodes : length parted.nodes.items ≡ length left
    count_nodes = ap length of.parted_are.nodes ∙ map_long node_in of.aparts ∙ zip_long Of left of.aparts of.apart

    count_doors : length parted.doors.items ≡ length left
    count_doors = ap length of.parted_are.doors ∙ map_long doors_of of.aparts ∙ zip_long Of left of.aparts of.apart

    ends_same : map ends_of parted.links.items ≡ map ends_left left
    ends_same =
        ap (map ends_of) of.parted_are.links ∙ map_map ends_of links_in of.aparts
        ∙ zip_same Of ends_left (λ (a : Apart R D K). ends_of a.links) (λ x a h. h.links) left of.aparts of.apart

    failed_same : position (λ (node : Node R K). not node.core.runs) parted.nodes.items ≡ position has_failed left
    failed_same =
        ap (position (λ (node : Node R K). not node.core.runs)) of.parted_are.nodes
        ∙ sym (same_position has_failed (λ (node : Node R K). not node.core.runs) left (map node_in of.aparts)
        (zip_map Of node_in (λ x node. has_failed x ≡ not node.core.runs) (λ x a h. ap (λ core. not core.runs) (sym h.core)) left of.aparts of.apart))

    full_same : parted.full ≡ position is_full left
    full_same = of.parted_are.full ∙ sym (same_position is_full (λ (a : Apart R D K). a.is_full) left of.aparts (zip_to Of (λ x a. is_full x ≡ a.is_full) (λ x a h. sym h.full) left of.aparts of.apart))

    door_same : parted.door_failed ≡ list_any lacks_door left
    door_same = of.parted_are.door_failed ∙ sym (same_any lacks_door (λ (a : Apart R D K). a.door_failed) left of.aparts (zip_to Of (λ x a. lacks_door x ≡ a.door_failed) (λ x a h. sym h.door_failed) left of.aparts of.apart))

    thread_same : parted.unstarted ≡ list_any lacks_thread left
    thread_same = of.parted_are.unstarted ∙ sym (same_any lacks_thread (λ (a : Apart R D K). a.unstarted) left of.aparts (zip_to Of (λ x a. lacks_thread x ≡ a.unstarted) (λ x a h. sym h.unstarted) left of.aparts of.apart))

    doors_zip : AllZip HasItsDoors left parted.doors.items
    doors_zip =
        subst (λ (l : List (Vec D Global)). AllZip HasItsDoors left l) (sym of.parted_are.doors) (zip_map Of doors_of HasItsDoors (λ x a h. h.doors) left of.aparts of.apart)

    -- ---- before they are given back

    pub few_nodes : CanPart left → length parted.nodes.items ≤ 7
    few_nodes can = let few = can.few in let count = count_nodes in omega (arith, few, count)

    pub few_doors : CanPart left → length parted.doors.items ≤ 7
    few_doors can = let few = can.few in let count = count_doors in omega (arith, few, count)

    pub full_within : CanPart left → IfSome parted.full (λ n. n < 7)
    full_within can = below parted.full (place_within is_full left parted.full full_same) where
      below : (o : Option ℕ) → IfSome o (λ n. n < length left) → IfSome o (λ n. n < 7)
      below None h = tt
      below (Some n) h = let few = can.few in omega (arith, h, few)

    pub even_links : CanPart left → (nodes : ℕ) × AreEven nodes (map ends_of parted.links.items)
    even_links can = (can.even.0, subst (λ (l : List NodeEnds). AreEven can.even.0 l) (sym ends_same) can.even.1)

    pub whole_links : CanPart left → EachLink AreEnds (map ends_of parted.links.items)
    whole_links can = subst (λ (l : List NodeEnds). EachLink AreEnds l) (sym ends_same) can.ends

    pub doors_long : CanPart left → length (by_node 0 parted.doors.items) ≡ length left * 16
    doors_long can =
        by_node_long 0 parted.doors.items (zip_on HasItsDoors HasDoors (λ (v : Vec D Global). length v.items ≡ 16) (λ x v same sixteen. ap length same ∙ sixteen) left parted.doors.items doors_zip can.doors)
        ∙ ap (λ (n : ℕ). n * 16) count_doors

    -- ---- behind it

    homes : (old new : Shown) → StaysSafe r → (n : ℕ) (xs : List (NodeLeft (Wiring R) D NodeEntry)) (aparts : List (Apart R D K)) → AllZip Of xs aparts
        → AreBackFrom r.is_honest (λ (node : Node R K). (r.disk node.replica).seen) (λ (node : Node R K). r.faults node.replica) n (map node_in aparts) old new
        → AreHomeFrom r n xs old new
    homes old new safe n [] [] zip back = tt
    homes old new safe n [] (a ∷ aparts) zip back = absurd zip
    homes old new safe n (x ∷ xs) [] zip back = absurd zip
    homes old new safe n (x ∷ xs) (a ∷ aparts) zip back = (
      record {
        replica = a.node.replica;
        since = zip.0.since;
        back = back.0;
        stands = λ runs honest. subst (λ (d : Durable). StandFor r.stands_for (IsSameKept d) (new.holds n)) (zip.0.since.durable runs honest)
            (safe a.node.replica honest (zip.0.since.whole runs) (new.holds n) (back.0.holds honest));
      },
      homes old new safe (n + 1) xs aparts zip.1 back.1,
    )

    -- what was found of the parts, and what is back, is what was found of the nodes, and what they had
    pub given_back : CanPart left → StaysSafe r → (faults : D → ℕ) (ended : ConsoleEnd) (old new : Shown) (book book' : Ledger D) (told : ServedEnd)
        → told ≡ told_of ended (position (λ (node : Node R K). not node.core.runs) parted.nodes.items) parted.door_failed parted.unstarted parted.full
        → EachLink AreSettled (map ends_of parted.links.items)
        → TakesBack faults (by_node 0 parted.doors.items) book book'
        → AreBackFrom r.is_honest (λ (node : Node R K). (r.disk node.replica).seen) (λ (node : Node R K). r.faults node.replica) 0 parted.nodes.items old new
        → ((n : ℕ) → length parted.nodes.items ≤ n → IsSameAt n old new)
        → IsGivenBack r faults ended left old new book book' told
    given_back can safe faults ended old new book book' told told_is settled takes back others = record {
      told_is = told_is ∙ (λ i. told_of ended (failed_same i) (door_same i) (thread_same i) (full_same i));
      home = homes old new safe 0 left of.aparts of.apart
          (subst (λ (l : List (Node R K)). AreBackFrom r.is_honest (λ (node : Node R K). (r.disk node.replica).seen) (λ (node : Node R K). r.faults node.replica) 0 l old new) of.parted_are.nodes back);
      others = λ n le. others n (let count = count_nodes in omega (arith, le, count));
      back = back_but faults (by_node 0 parted.doors.items) (length left * 16) book book' (doors_long can) takes;
      later = takes.later;
      counted = zip_back HasItsDoors (λ (x : NodeLeft (Wiring R) D NodeEntry). AreCounted faults book.faults book'.faults (doors_in x.jobs.items)) (λ (v : Vec D Global). AreCounted faults book.faults book'.faults v.items)
          (λ x v same all. subst (λ (l : List D). AreCounted faults book.faults book'.faults l) same all) left parted.doors.items doors_zip
          (by_node_all (λ (door : D). 0 < faults door → HasRisen book.faults book'.faults) 0 parted.doors.items takes.counted);
      settled = subst (λ (l : List NodeEnds). EachLink AreSettled l) ends_same settled;
    }
