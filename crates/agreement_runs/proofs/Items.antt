-- A reply of one or two items: when it passes, and what it shows.
use Prim.Native.Nat.{ℕ, zero, suc, ◌+◌, ◌<◌}
use mathlib.Core.Path.{◌≡◌, refl, sym, ◌∙◌, ap, subst}
use mathlib.Core.List.{List, [], ◌∷◌, ◌++◌, Memᴰ}
use mathlib.Core.Bool.{Bool, true}
use native.Mathlib.Omega.{arith}
use lib.Dec.{leb, eqb}
use borrow.Author.Tests.{eq-eqb}
use Rattle.operation.specs.Operation.{Response, same_op, response_on, run_all}
use Rattle.conflict.specs.Conflict.{conflicts}
use Rattle.message.specs.declared.Item.{Item}
use Rattle.message.specs.Readers.{ItemFits, none, more}
use Rattle.message.specs.Message.{chain_string, reply_bytes, is_reply, reply_item, reply_items}
use Rattle.round_trips.proofs.Messages.{reply_yes, reply_read}
use Rattle.verify.specs.Verify.{link_value}
use Rattle.replica.specs.Places.{value_at, status_at}
use Rattle.replica.specs.declared.Replica.{Replica}
use Rattle.checks.specs.Checks.{every}
use Rattle.replica.specs.Replica.{in_range}
use Rattle.checks.proofs.Laws.{Yes, every-each}
use Rattle.replica.proofs.Laws.{Sized}
use Rattle.client_reply_check.specs.ReplyChecks.{listed_ok, item_value, is_uncommitted, item_proof_checks, item_checks, items_checks, last_ok, reply_no}
use Rattle.client_reply.specs.Reply.{chain_after, sort_item, sort_to, is_aborted, last_response}
use Rattle.client_laws.proofs.Chain.{item_taken, values_stay}
use Rattle.client_laws.proofs.Passes.{reply_passes}
use Rattle.client_laws.proofs.Uncommitted.{halt_step, uncommitted_halts}
use Rattle.agreement.specs.WholeRuns.{receive, message_of, step_of, Logged, item_strings, strings, Carried, item_carried, item_tags, tags}
use Rattle.agreement.proofs.Events.{taken-reply}
use Rattle.agreement_runs.proofs.Shown as S
use Rattle.agreement_runs.proofs.Shown.{Shows}
use Rattle.agreement_runs.proofs.Replies.{reply_event, halt_step_lem}

-- ---- one item
module _ (r : Replica) (i : Item) (f : ItemFits i) where
  abbrev one : List ℕ
  one = reply_bytes (i ∷ [])

  pub one_form : is_reply (reply_bytes (i ∷ [])) ≡ true
  one_form = reply_yes (i ∷ []) (omega arith) (more f none)

  one_item : reply_item (reply_bytes (i ∷ [])) 0 ≡ i
  unfolding reply_items
  one_item = (let e = reply_read (i ∷ []) (more f none) in cc e)

  pub one_passes : in_range r ≡ true → r.halt ≡ 0 → Yes (item_checks r 1 0 i) → same_op i.op r.current ≡ true → eqb i.author r.number ≡ true
      → reply_no r (reply_bytes (i ∷ [])) 80 ≡ 0
  unfolding reply_bytes last_ok
  one_passes range clear y p q = reply_passes r one 80 range clear one_form (omega arith) items last
    where
      items : (k : ℕ) → k < 1 → Yes (item_checks r 1 k (reply_item (reply_bytes (i ∷ [])) k))
      items zero h = subst (λ (i : Item). Yes (item_checks r 1 0 i)) (sym one_item) y
      items (suc k) h = absurd (omega arith)

      last : every true (leb 1 1 ∷ same_op (reply_item (reply_bytes (i ∷ [])) 0).op r.current ∷ eqb (reply_item (reply_bytes (i ∷ [])) 0).author r.number ∷ []) ≡ true
      last =
          (λ t. every true (leb 1 1 ∷ same_op (one_item t).op r.current ∷ eqb (one_item t).author r.number ∷ []))
          ∙ every-each (leb 1 1 ∷ same_op i.op r.current ∷ eqb i.author r.number ∷ []) (refl, (p, (q, tt)))

  module _ (z : reply_no r (reply_bytes (i ∷ [])) 80 ≡ 0) (s : Sized r) where
    pub one_value : value_at r.confirmed 1 (chain_after r (reply_bytes (i ∷ []))) ≡ link_value (value_at r.confirmed 0 r.chain) i.op (r.confirmed + 1) i.author
    unfolding item_value reply_bytes
    one_value =
        (item_taken r one 80 z s.chain 0 (omega arith)).link
        ∙ (λ t. link_value (values_stay r one 80 z s.chain 0 (omega arith) t) (one_item t).op (r.confirmed + 1) (one_item t).author)

    pub one_shows : {P : List Logged → Carried → Type 0} {Ss : List (List ℕ)} {older : List Logged} (n : ℕ) (a : Bool) (x : Response)
        → Memᴰ (chain_string (value_at r.confirmed 0 r.chain) i.op (r.confirmed + 1) i.author) Ss → P older (item_carried i)
        → Shows P Ss older (reply_event n r (i ∷ []) 1 a x)
    unfolding strings tags message_of reply_bytes item_strings item_tags
    one_shows n a x h p =
        record {
          ss = chain_string (value_at r.confirmed 0 r.chain) i.op (r.confirmed + 1) i.author ∷ [];
          strs =
              taken-reply a x (r.confirmed + 1) _ _
              ∙ (λ t. chain_string (values_stay r one 80 z s.chain 0 (omega arith) t) (one_item t).op (r.confirmed + 1) (one_item t).author ∷ []);
          known = S.more h S.none;
          xs = item_carried i ∷ [];
          tgs = taken-reply a x (r.confirmed + 1) _ _ ∙ ap (λ (i : Item). item_carried i ∷ []) one_item;
          each = S.more p S.none;
        }

-- ---- two items
module _ (r : Replica) (i j : Item) (f : ItemFits i) (g : ItemFits j) where
  abbrev two : List ℕ
  two = reply_bytes (i ∷ j ∷ [])

  pub two_form : is_reply (reply_bytes (i ∷ j ∷ [])) ≡ true
  two_form = reply_yes (i ∷ j ∷ []) (omega arith) (more f (more g none))

  pub first_item : reply_item (reply_bytes (i ∷ j ∷ [])) 0 ≡ i
  unfolding reply_items
  first_item = (let e = reply_read (i ∷ j ∷ []) (more f (more g none)) in cc e)

  pub second_item : reply_item (reply_bytes (i ∷ j ∷ [])) 1 ≡ j
  unfolding reply_items
  second_item = (let e = reply_read (i ∷ j ∷ []) (more f (more g none)) in cc e)

  pub two_passes : in_range r ≡ true → r.halt ≡ 0 → Yes (item_checks r 2 0 i) → Yes (item_checks r 2 1 j) → same_op j.op r.current ≡ true
      → eqb j.author r.number ≡ true → reply_no r (reply_bytes (i ∷ j ∷ [])) 80 ≡ 0
  unfolding reply_bytes last_ok
  two_passes range clear y y' p q = reply_passes r two 80 range clear two_form (omega arith) items last
    where
      items : (k : ℕ) → k < 2 → Yes (item_checks r 2 k (reply_item (reply_bytes (i ∷ j ∷ [])) k))
      items zero h = subst (λ (i : Item). Yes (item_checks r 2 0 i)) (sym first_item) y
      items (suc zero) h = subst (λ (i : Item). Yes (item_checks r 2 1 i)) (sym second_item) y'
      items (suc (suc k)) h = absurd (omega arith)

      last : every true (leb 1 2 ∷ same_op (reply_item (reply_bytes (i ∷ j ∷ [])) 1).op r.current ∷ eqb (reply_item (reply_bytes (i ∷ j ∷ [])) 1).author r.number ∷ []) ≡ true
      last =
          (λ t. every true (leb 1 2 ∷ same_op (second_item t).op r.current ∷ eqb (second_item t).author r.number ∷ []))
          ∙ every-each (leb 1 2 ∷ same_op j.op r.current ∷ eqb j.author r.number ∷ []) (refl, (p, (q, tt)))

  -- its first item is the client's own, where it has not committed
  pub two_halts : (n : ℕ) → in_range r ≡ true → r.halt ≡ 0 → Yes ((listed_ok r.confirmed 0 i, 21) ∷ item_proof_checks r 0 i)
      → is_uncommitted r.number (status_at r.confirmed 0 r.statuses) 2 0 i ≡ true
      → step_of r (receive n (reply_bytes (i ∷ j ∷ [])) 80) ≡ halt_step r 26
  unfolding reply_bytes items_checks
  two_halts n range clear y u =
      halt_step_lem n r (i ∷ j ∷ []) 26 two_form
      (uncommitted_halts r two 80 0 (omega arith) (rw (range, eq-eqb r.halt 0 clear, two_form))
      (subst (λ (i : Item). Yes ((listed_ok r.confirmed 0 i, 21) ∷ item_proof_checks r 0 i)) (sym first_item) y)
      (subst (λ (i : Item). is_uncommitted r.number (status_at r.confirmed 0 r.statuses) 2 0 i ≡ true) (sym first_item) u))

  -- whether it is aborted, and its response, by the first item
  pub two_aborted : is_aborted r (reply_bytes (i ∷ j ∷ []))
      ≡ conflicts r.cells (sort_item r.confirmed r.number r.statuses 0 i (record { others = []; own = [] })).others ((sort_item r.confirmed r.number r.statuses 0 i (record { others = []; own = [] })).own ++ (r.current ∷ []))
  unfolding is_aborted sort_to reply_bytes
  two_aborted =
      ap (λ (i : Item). conflicts r.cells (sort_item r.confirmed r.number r.statuses 0 i (record { others = []; own = [] })).others ((sort_item r.confirmed r.number r.statuses 0 i (record { others = []; own = [] })).own ++ (r.current ∷ []))) first_item

  pub two_response : last_response r (reply_bytes (i ∷ j ∷ []))
      ≡ response_on r.current (run_all (sort_item r.confirmed r.number r.statuses 0 i (record { others = []; own = [] })).own r.cells)
  unfolding last_response sort_to reply_bytes
  two_response =
      ap (λ (i : Item). response_on r.current (run_all (sort_item r.confirmed r.number r.statuses 0 i (record { others = []; own = [] })).own r.cells)) first_item

  pub two_tags : (n : ℕ) (a : Bool) (x : Response) → tags (reply_event n r (i ∷ j ∷ []) 2 a x) ≡ item_carried i ∷ item_carried j ∷ []
  unfolding tags message_of reply_bytes item_tags
  two_tags n a x = taken-reply a x (r.confirmed + 2) _ _ ∙ (λ t. item_carried (first_item t) ∷ item_carried (second_item t) ∷ [])

  module _ (z : reply_no r (reply_bytes (i ∷ j ∷ [])) 80 ≡ 0) (s : Sized r) where
    pub two_first : value_at r.confirmed 1 (chain_after r (reply_bytes (i ∷ j ∷ []))) ≡ link_value (value_at r.confirmed 0 r.chain) i.op (r.confirmed + 1) i.author
    unfolding item_value reply_bytes
    two_first =
        (item_taken r two 80 z s.chain 0 (omega arith)).link
        ∙ (λ t. link_value (values_stay r two 80 z s.chain 0 (omega arith) t) (first_item t).op (r.confirmed + 1) (first_item t).author)

    pub two_second : value_at r.confirmed 2 (chain_after r (reply_bytes (i ∷ j ∷ [])))
        ≡ link_value (link_value (value_at r.confirmed 0 r.chain) i.op (r.confirmed + 1) i.author) j.op (r.confirmed + 2) j.author
    unfolding item_value reply_bytes
    two_second =
        (item_taken r two 80 z s.chain 1 (omega arith)).link
        ∙ (λ t. link_value (two_first t) (second_item t).op (r.confirmed + 2) (second_item t).author)

    pub two_shows : {P : List Logged → Carried → Type 0} {Ss : List (List ℕ)} {older : List Logged} (n : ℕ) (a : Bool) (x : Response)
        → Memᴰ (chain_string (value_at r.confirmed 0 r.chain) i.op (r.confirmed + 1) i.author) Ss
        → Memᴰ (chain_string (link_value (value_at r.confirmed 0 r.chain) i.op (r.confirmed + 1) i.author) j.op (r.confirmed + 2) j.author) Ss
        → P older (item_carried i) → P older (item_carried j) → Shows P Ss older (reply_event n r (i ∷ j ∷ []) 2 a x)
    unfolding strings tags message_of reply_bytes item_strings item_tags
    two_shows n a x h h' p p' =
        record {
          ss = chain_string (value_at r.confirmed 0 r.chain) i.op (r.confirmed + 1) i.author
              ∷ chain_string (link_value (value_at r.confirmed 0 r.chain) i.op (r.confirmed + 1) i.author) j.op (r.confirmed + 2) j.author ∷ [];
          strs =
              taken-reply a x (r.confirmed + 2) _ _
              ∙ (λ t. chain_string (values_stay r two 80 z s.chain 0 (omega arith) t) (first_item t).op (r.confirmed + 1) (first_item t).author
              ∷ chain_string (two_first t) (second_item t).op (r.confirmed + 2) (second_item t).author ∷ []);
          known = S.more h (S.more h' S.none);
          xs = item_carried i ∷ item_carried j ∷ [];
          tgs = two_tags n a x;
          each = S.more p (S.more p' S.none);
        }
