-- One event of an engine keeps what it and the run tell of each other.
use Rattle.std.proofs.Common.{◌≡◌, ◌≢◌, inl, inr, ℕ, zero, suc, ◌+◌, List, [], ◌∷◌, ◌++◌, length, refl, sym, ◌∙◌, ap, subst, true, false, Bool, ◌&&◌, arith, Some}
use Rattle.std.specs.Prelude.{nat_lt, slice_get}
use Rattle.std.specs.List.{list_all}
use Rattle.std.proofs.lemmas.Bool.Decides.{eqb_tells}
use Rattle.cp_call.specs.declared.asked.Asked.TheVariants as asked
use Rattle.cp_call.specs.declared.call.Call.{Call}
use Rattle.cp_call.specs.declared.call.Reply.{Reply}
use Rattle.cp_call.specs.declared.call.Reply.TheVariants as reply
use Rattle.cp_call.specs.declared.call.Entry.{Entry}
use Rattle.cp_call.specs.declared.item.Item.{Item}
use Rattle.cp_call.specs.declared.item.Item.TheVariants as item
use Rattle.cp_call.specs.declared.outcome.OutEntry.{OutEntry}
use Rattle.cp_list.specs.Lists.{IsPrefix}
use Rattle.cp_call.specs.Asker.{entry_added, IsFullBy}
use Rattle.cp_call.specs.Sound.{Object, own_entries, entry_unless_full, asked_entries, wrote_entries, IsRight, IsRightEvent, RightRefusals, AgreeOn, AgreeFrom, is_of_objects, Agrees}
use Rattle.cp_call.proofs.Growing.{append_nil, AgreeOn-push, RightRefusals-longer, wrote_entries-append}

suc_shift : (p k : ℕ) → (p + 1) + k ≡ p + suc k
suc_shift p k = omega arith

-- each object's part, from the fact for the object at each place
AgreeFrom-push : (os : List Object) (p : ℕ) (h h' : ℕ → List Entry) (n : ℕ) (items : List Item) (i : Item)
    → ((q : ℕ) → IsPrefix (h q) (h' q))
    → ((q : ℕ) → own_entries n (h' q) ≡ own_entries n (h q) ++ asked_entries n q (i ∷ []))
    → ((k : ℕ) (o : Object) → slice_get os k ≡ Some o → IsRightEvent o (p + k) (h' (p + k)) n items i)
    → AgreeFrom p os h n items
    → AgreeFrom p os h' n (items ++ i ∷ [])
AgreeFrom-push [] p h h' n items i grows own right a = tt
AgreeFrom-push (o ∷ os) p h h' n items i grows own right a =
    let g : IsPrefix (h p) (h' p) = grows p in
    let own_more : own_entries n (h p ++ g.0) ≡ own_entries n (h p) ++ asked_entries n p (i ∷ []) = subst (λ x. own_entries n x ≡ own_entries n (h p) ++ asked_entries n p (i ∷ [])) g.1 (own p) in
    let right_here : IsRightEvent o p (h' p) n items i = subst (λ q. IsRightEvent o q (h' q) n items i) (let z : p + 0 ≡ p = omega arith in z) (right zero o refl) in
    let right_more : IsRightEvent o p (h p ++ g.0) n items i = subst (λ x. IsRightEvent o p x n items i) g.1 right_here in
    let here : AgreeOn o p (h p ++ g.0) n (items ++ i ∷ []) = AgreeOn-push o p (h p) g.0 n items i a.0 own_more right_more in (
      subst (λ x. AgreeOn o p x n (items ++ i ∷ [])) (sym g.1) here,
      AgreeFrom-push os (p + 1) h h' n items i grows own
          (λ k o' e. subst (λ q. IsRightEvent o' q (h' q) n items i) (sym (suc_shift p k)) (right (suc k) o' e)) a.1,
    )

list_all-push : (f : Item → Bool) (xs : List Item) (i : Item) → list_all f xs ≡ true → f i ≡ true → list_all f (xs ++ i ∷ []) ≡ true
list_all-push f [] i h r = rw r refl
list_all-push f (x ∷ xs) i h r = elim (f x) as (λ b. b && list_all f xs ≡ true → b && list_all f (xs ++ i ∷ []) ≡ true) [
  | true ↦ λ e. list_all-push f xs i e r
  | false ↦ λ e. e
] h

-- a refusal that the asker vouches for is a right one
right_reply : (o : Object) (seen : List Entry) (n : ℕ) (mine : List Entry) (c : Call) (r : Reply) → IsFullBy (Some o) seen n c (asked.Replied r) → own_entries n seen ≡ mine ++ entry_unless_full n c r [] → IsRight o seen n mine c r
right_reply o seen n mine c (reply.Full by count) f own = record {
  seen = seen;
  later = [];
  begins = sym (append_nil seen);
  own = own ∙ append_nil mine;
  reached = f.reached;
  awake = f.awake;
}
right_reply o seen n mine c (reply.Added place woken) f own = tt
right_reply o seen n mine c (reply.Found place fact) f own = tt
right_reply o seen n mine c reply.NoMore f own = tt
right_reply o seen n mine c reply.Parked f own = tt
right_reply o seen n mine c (reply.Purged count) f own = tt
right_reply o seen n mine c (reply.Replaced place woken) f own = tt
right_reply o seen n mine c (reply.Closed woken) f own = tt
right_reply o seen n mine c reply.Reopened f own = tt
right_reply o seen n mine c reply.Left f own = tt
right_reply o seen n mine c reply.NotParked f own = tt

-- what the asker saw of an object's own entries is what the engine tells
own_at : (os : List Object) (p k : ℕ) (o : Object) (h : ℕ → List Entry) (n : ℕ) (items : List Item) → AgreeFrom p os h n items → slice_get os k ≡ Some o → own_entries n (h (p + k)) ≡ asked_entries n (p + k) items
own_at [] p k o h n items a e = cc
own_at (x ∷ os) p zero o h n items a e = let z : p ≡ p + 0 = omega arith in subst (λ q. own_entries n (h q) ≡ asked_entries n q items) z a.0.entries
own_at (x ∷ os) p (suc k) o h n items a e = subst (λ q. own_entries n (h q) ≡ asked_entries n q items) (suc_shift p k) (own_at os (p + 1) k o h n items a.1 e)

-- One call of an engine on object p, as an asker answers it: the engine's event is added, and all that it tells stays so.
pub Agrees-asked : (os : List Object) (h h' : ℕ → List Entry) (writes : List OutEntry) (n : ℕ) (items : List Item) (p : ℕ) (c : Call) (r : Reply)
    → nat_lt p (length os) ≡ true
    → ((q : ℕ) → IsPrefix (h q) (h' q))
    → own_entries n (h' p) ≡ own_entries n (h p) ++ entry_added n c (asked.Replied r)
    → ((q : ℕ) → (p ≢ q) → own_entries n (h' q) ≡ own_entries n (h q))
    → IsFullBy (slice_get os p) (h' p) n c (asked.Replied r)
    → Agrees os h writes n items
    → Agrees os h' writes n (items ++ item.Asked p c r ∷ [])
Agrees-asked os h h' writes n items p c r inside grows mine others full a = record {
  known = list_all-push (is_of_objects (length os)) items (item.Asked p c r) a.known inside;
  asked = AgreeFrom-push os 0 h h' n items (item.Asked p c r) grows own right a.asked;
  wrote = a.wrote ∙ (sym (append_nil (wrote_entries n items)) ∙ sym (wrote_entries-append n items (item.Asked p c r ∷ [])));
}
  where
    own : (q : ℕ) → own_entries n (h' q) ≡ own_entries n (h q) ++ asked_entries n q (item.Asked p c r ∷ [])
    own q = elim (eqb_tells p q) [
      | inl s ↦ let g : own_entries n (h' q) ≡ own_entries n (h q) ++ entry_unless_full n c r [] = subst (λ x. own_entries n (h' x) ≡ own_entries n (h x) ++ entry_unless_full n c r []) s.1 mine in rw s.0 g
      | inr d ↦ rw d.0 (others q d.1 ∙ sym (append_nil (own_entries n (h q))))
    ]

    right_at : (q : ℕ) (o : Object) → slice_get os q ≡ Some o → IsRightEvent o q (h' q) n items (item.Asked p c r)
    right_at q o e = elim (eqb_tells p q) [
      | inl s ↦ (let m : own_entries n (h' q) ≡ asked_entries n q items ++ entry_unless_full n c r [] =
          subst (λ x. own_entries n (h' x) ≡ own_entries n (h x) ++ entry_unless_full n c r []) s.1 mine
          ∙ ap (λ x. x ++ entry_unless_full n c r []) (let w : own_entries n (h (0 + q)) ≡ asked_entries n (0 + q) items = own_at os 0 q o h n items a.asked e in subst (λ x. own_entries n (h x) ≡ asked_entries n x items) (let z : 0 + q ≡ q = omega arith in z) w) in
          let f : IsFullBy (slice_get os q) (h' q) n c (asked.Replied r) = subst (λ x. IsFullBy (slice_get os x) (h' x) n c (asked.Replied r)) s.1 full in
          let g : IsFullBy (Some o) (h' q) n c (asked.Replied r) = subst (λ x. IsFullBy x (h' q) n c (asked.Replied r)) e f in
          let z : IsRight o (h' q) n (asked_entries n q items) c r = right_reply o (h' q) n (asked_entries n q items) c r g m in
          rw s.0 z)
      | inr d ↦ rw d.0 tt
    ]

    right : (k : ℕ) (o : Object) → slice_get os k ≡ Some o → IsRightEvent o (0 + k) (h' (0 + k)) n items (item.Asked p c r)
    right k o e = subst (λ q. IsRightEvent o q (h' q) n items (item.Asked p c r)) (let z : k ≡ 0 + k = omega arith in z) (right_at k o e)

-- One write of an engine: the same.
pub Agrees-wrote : (os : List Object) (h : ℕ → List Entry) (writes : List OutEntry) (n : ℕ) (items : List Item) (w : Item) (entry : OutEntry)
    → is_of_objects (length os) w ≡ true
    → wrote_entries n (w ∷ []) ≡ entry ∷ []
    → ((q : ℕ) → asked_entries n q (w ∷ []) ≡ [])
    → ((q : ℕ) (o : Object) → IsRightEvent o q (h q) n items w)
    → Agrees os h writes n items
    → Agrees os h (writes ++ entry ∷ []) n (items ++ w ∷ [])
Agrees-wrote os h writes n items w entry inside is_write no_entry right a = record {
  known = list_all-push (is_of_objects (length os)) items w a.known inside;
  asked = AgreeFrom-push os 0 h h n items w (λ q. ([], sym (append_nil (h q)))) (λ q. rw (no_entry q) (sym (append_nil (own_entries n (h q))))) (λ k o e. right (0 + k) o) a.asked;
  wrote = ap (λ x. x ++ entry ∷ []) a.wrote ∙ (ap (λ x. wrote_entries n items ++ x) (sym is_write) ∙ sym (wrote_entries-append n items (w ∷ [])));
}

AgreeFrom-others : (os : List Object) (p : ℕ) (h h' : ℕ → List Entry) (n : ℕ) (items : List Item)
    → ((q : ℕ) → IsPrefix (h q) (h' q))
    → ((q : ℕ) → own_entries n (h' q) ≡ own_entries n (h q))
    → AgreeFrom p os h n items
    → AgreeFrom p os h' n items
AgreeFrom-others [] p h h' n items grows own a = tt
AgreeFrom-others (o ∷ os) p h h' n items grows own a =
    let g : IsPrefix (h p) (h' p) = grows p in (
      record {
        entries = own p ∙ a.0.entries;
        refusals = subst (λ x. RightRefusals o p x n [] items) (sym g.1) (RightRefusals-longer o p (h p) g.0 n [] items a.0.refusals);
      },
      AgreeFrom-others os (p + 1) h h' n items grows own a.1,
    )

-- An event of another engine: what this engine tells stays so.
pub Agrees-others : (os : List Object) (h h' : ℕ → List Entry) (writes : List OutEntry) (n : ℕ) (items : List Item)
    → ((q : ℕ) → IsPrefix (h q) (h' q))
    → ((q : ℕ) → own_entries n (h' q) ≡ own_entries n (h q))
    → Agrees os h writes n items
    → Agrees os h' writes n items
Agrees-others os h h' writes n items grows own a = record {
  known = a.known;
  asked = AgreeFrom-others os 0 h h' n items grows own a.asked;
  wrote = a.wrote;
}
