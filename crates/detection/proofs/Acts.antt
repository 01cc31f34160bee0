-- The acts of a job that are made of two: an active job spreads, and a GRANT frees its waiter.
use Rattle.std.proofs.Common.{◌≡◌, ℕ, ◌+◌, ◌<◌, Bool, false, cond, not, ◌&&◌, eqb, List, [], ◌∷◌, ◌++◌, length, sym, ap, ◌∙◌, subst, arith}
use Rattle.std.proofs.lemmas.List.{length-append}
use Rattle.std.proofs.lemmas.Bool.{eq-eqb, cond-true}
use Rattle.carriers.specs.declared.message.Kind.{Kind}
use Rattle.carriers.specs.declared.message.Kind.TheVariants.{Grant, Ack}
use Rattle.carriers.specs.declared.message.Wait.{Wait}
use Rattle.carriers.specs.Meaning.{Sent}
use Rattle.carriers.specs.Carriers.{Carried}
use Rattle.carriers.proofs.Sends.{sent_more, length-sent}
use Rattle.rows.specs.Waiting.{Waiting, at, is_active}
use Rattle.rows.specs.declared.plain.TheConstants.{TARGETS_MAX}
use Rattle.tables.specs.Tables.{IsTable}
use Rattle.tables.specs.Waits.{waiters}
use Rattle.carriers.specs.Messages.{receiver_on}
use Rattle.exchange.specs.Rules.{message, notify_messages, grant_messages, Act, and_then, let_go, notify_all, spread, freed_on, react}
use Rattle.exchange.proofs.RecordChanges.{with_granted, with_freed_by}
use Rattle.exchange.specs.Bounds.{IsDue}
use Rattle.exchange.specs.declared.record.RunRecord.{RunRecord}
use Rattle.detection.specs.Preconditions.{RoomFor}
use Rattle.tables.proofs.Sizes.{targets_are_few}

-- An active job that spreads notifies all, and then lets go.
module _ (rows : List Waiting) (j : ℕ) (r : RunRecord) where
  pub active_job_lets_go : (at rows j).need ≡ 0 → spread rows j r ≡ and_then (notify_all rows j r) (let_go rows j)
  active_job_lets_go active =
      cond-true (is_active rows j) (and_then (notify_all rows j r) (let_go rows j)) (notify_all rows j r) (eq-eqb (at rows j).need 0 active)

  pub active_job_puts_both : (at rows j).need ≡ 0 → length (spread rows j r).puts ≡ length (notify_messages rows j) + length (grant_messages rows j)
  active_job_puts_both active = ap (λ (a : Act). length a.puts) (active_job_lets_go active) ∙ length-append (notify_messages rows j) (grant_messages rows j)

-- A GRANT finds a job that was granted less often than any row has targets.
pub grant_finds_few_granted : {rows : List Waiting} → IsTable rows → {kind : Kind} (w : Wait) (r : RunRecord) → kind ≡ Grant → IsDue rows kind w r
    → r.granted < TARGETS_MAX
grant_finds_few_granted {rows} tabled w r grant due =
    omega (arith, subst (λ (k : Kind). IsDue rows k w r) grant due, targets_are_few rows tabled w.waiter)

-- A GRANT comes to a job that is not free, and was granted one less than it needs.
pub record Frees (rows : List Waiting) (kind : Kind) (w : Wait) (r : RunRecord) (job : ℕ) : Type 0 where
  pub grant : kind ≡ Grant
  pub receiver : job ≡ receiver_on kind w
  pub unfree : r.free ≡ false
  pub enough : r.granted + 1 ≡ (at rows job).need

-- The job lets go. It puts GRANT on each wait for it, and ACK where there is none.
module _ {rows : List Waiting} {kind : Kind} {w : Wait} {r : RunRecord} {job : ℕ} (frees : Frees rows kind w r job) where
  receiver_is_the_waiter : job ≡ w.waiter
  receiver_is_the_waiter = frees.receiver ∙ ap (λ (k : Kind). receiver_on k w) frees.grant

  freed_job_lets_go : react rows kind w r ≡ freed_on rows w r
  freed_job_lets_go =
      let enough : r.granted + 1 ≡ (at rows w.waiter).need = frees.enough ∙ ap (λ (j : ℕ). (at rows j).need) receiver_is_the_waiter in
      subst (λ (k : Kind). react rows k w r ≡ freed_on rows w r) (sym frees.grant)
      (cond-true (not r.free && eqb (r.granted + 1) (at rows w.waiter).need) (freed_on rows w r) _
      (rw (frees.unfree, eq-eqb (r.granted + 1) (at rows w.waiter).need enough)))

  pub freed_job_becomes : (let_go rows job (with_freed_by w (with_granted (r.granted + 1) r))).becomes ≡ (react rows kind w r).becomes
  freed_job_becomes =
      ap (λ (j : ℕ). (let_go rows j (with_freed_by w (with_granted (r.granted + 1) r))).becomes) receiver_is_the_waiter
      ∙ ap (λ (a : Act). a.becomes) (sym freed_job_lets_go)

  freed_job_puts : (react rows kind w r).puts ≡ grant_messages rows job ++ cond (eqb (length (waiters rows job)) 0) (message Ack w ∷ []) []
  freed_job_puts =
      ap (λ (a : Act). a.puts) freed_job_lets_go
      ∙ ap (λ (j : ℕ). grant_messages rows j ++ cond (eqb (length (waiters rows j)) 0) (message Ack w ∷ []) []) (sym receiver_is_the_waiter)

  pub freed_job_has_room_for_grants : (before : Carried) → RoomFor before (react rows kind w r).puts → RoomFor before (grant_messages rows job)
  freed_job_has_room_for_grants before room =
      omega (arith, ap length freed_job_puts, length-append (grant_messages rows job) (cond (eqb (length (waiters rows job)) 0) (message Ack w ∷ []) []))

  module _ (none : length (waiters rows job) ≡ 0) {before between : Carried} (sent : Sent before between (grant_messages rows job)) where
    freed_job_without_waiters_puts : (react rows kind w r).puts ≡ grant_messages rows job ++ message Ack w ∷ []
    freed_job_without_waiters_puts =
        freed_job_puts ∙ ap (λ (b : Bool). grant_messages rows job ++ cond b (message Ack w ∷ []) []) (eq-eqb (length (waiters rows job)) 0 none)

    pub freed_job_has_room_for_ack : RoomFor before (react rows kind w r).puts → RoomFor between (message Ack w ∷ [])
    freed_job_has_room_for_ack room =
        omega (
          arith,
          ap length freed_job_without_waiters_puts,
          length-append (grant_messages rows job) (message Ack w ∷ []),
          length-sent before between (grant_messages rows job) sent,
          sent.capacity,
        )

    pub freed_job_sends_grants_and_ack : {after : Carried} → Sent between after (message Ack w ∷ []) → Sent before after (react rows kind w r).puts
    freed_job_sends_grants_and_ack {after} then =
        subst (Sent before after) (sym freed_job_without_waiters_puts)
        (sent_more before between after (grant_messages rows job) (message Ack w ∷ []) sent then)
