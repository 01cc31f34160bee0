-- What a reaction does to each entry and to the weight of the messages.
use Rattle.std.proofs.Common.{◌≡◌, ℕ, ◌+◌, ◌-◌, ◌<◌, ◌≤◌, Bool, true, false, cond, not, ◌&&◌, ◌||◌, eqb, ◌⊎◌, List, [], ◌∷◌, map, length, Some, None, Option, sym, refl, ap, ◌∙◌, subst, inl, inr, arith}
use Rattle.std.proofs.ByRecursion.{All-append, All-map}
use Rattle.std.proofs.lemmas.Bool.{true≢false, cases_eq, cond_both}
use Rattle.std.proofs.lemmas.Bool.Decides.{nat_tests}
use Rattle.std.specs.List.{AllByRecursion}
use Rattle.carriers.specs.declared.message.Kind.{Kind}
use Rattle.carriers.specs.declared.message.Kind.TheVariants.{Notify, Done, Grant, Ack}
use Rattle.carriers.specs.declared.message.Wait.{Wait}
use Rattle.rows.specs.Waiting.{Waiting, among}
use Rattle.rows.specs.Law.{rising}
use Rattle.tables.specs.Waits.{waiters}
use Rattle.tables.proofs.Laws.{who_waits_is_a_job}
use Rattle.tables.proofs.WaiterLemmas.{among_rising_is_not_below, waiters_are_who_waits, waiters_rise}
use Rattle.carriers.specs.Messages.{receiver_on}
use Rattle.exchange.specs.Rules.{on, message, notify_messages, grant_messages, put_on, Act, and_then, let_go, notify_all, spread, react, freed_on}
use Rattle.exchange.specs.Records.{blank}
use Rattle.exchange.proofs.RecordChanges.{with_granted, with_notified_by, freed}
use Rattle.exchange.specs.Bounds.{IsDue}
use Rattle.exchange.specs.declared.record.RunRecord.{RunRecord}
use Rattle.exchange.proofs.Entries
use Rattle.exchange.proofs.LawfulRows.{need, targets, Sound, waiter_is_blocked, some_waiter, each_waiter_waits, each_is_among}
use Rattle.exchange.proofs.Weights.{weigh, weigh_append, weigh_alike, weigh_put_on}

-- A job that has not spread: if it is active, it has not let go either.
pub record Unspread (rows : List Waiting) (j : ℕ) (r : RunRecord) : Type 0 where
  pub unnotified : r.notified ≡ false
  pub unfree : need rows j ≡ 0 → (r.free ≡ false) × (r.acks_due ≡ 0) × (r.freed_by ≡ None)

-- Some NOTIFY of x is on the wait (x, y).
some_notify : (x y : ℕ) (ts : List ℕ) → among y ts ≡ true → 1 ≤ weigh (Entries.notify_on x y) (map (λ (u : ℕ). message Notify (on x u)) ts)
some_notify x y [] a = absurd (true≢false (sym a))
some_notify x y (u ∷ us) a = go (some_notify x y us)
  where
    go : (among y us ≡ true → 1 ≤ weigh (Entries.notify_on x y) (map (λ (u : ℕ). message Notify (on x u)) us)) → 1 ≤ weigh (Entries.notify_on x y) (map (λ (u : ℕ). message Notify (on x u)) (u ∷ us))
    go ih = grind (arith, nat_tests)

-- Of GRANTs to jobs that rise, one goes to x if x is among them.
one_grant_to : (j x low : ℕ) (vs : List ℕ) → rising low vs ≡ true → weigh (Entries.grant_to x) (map (λ (v : ℕ). message Grant (on v j)) vs) ≡ cond (among x vs) 1 0
one_grant_to j x low [] r = refl
one_grant_to j x low (v ∷ vs) r =
    let rest : rising (v + 1) vs ≡ true = grind (arith, nat_tests) in
    go (among x vs) (one_grant_to j x (v + 1) vs rest) (λ a. among_rising_is_not_below (v + 1) vs x rest a)
  where
    go : (b : Bool) → weigh (Entries.grant_to x) (map (λ (v : ℕ). message Grant (on v j)) vs) ≡ cond b 1 0 → (b ≡ true → v + 1 ≤ x) → Entries.same v x + weigh (Entries.grant_to x) (map (λ (v : ℕ). message Grant (on v j)) vs) ≡ cond (eqb v x || b) 1 0
    go true ih f = let l = f refl in grind (arith, nat_tests)
    go false ih f = grind (arith, nat_tests)

module _ (rows : List Waiting) (ok : Sound rows) where
  -- What all NOTIFYs of a spread weigh together, and all GRANTs of a letting go.
  weigh_notifies : (f : Kind → Wait → ℕ) (j : ℕ) (b : Bool) → ((u : ℕ) → f Notify (on j u) ≡ cond b 1 0) → weigh f (notify_messages rows j) ≡ cond b (length (targets rows j)) 0
  weigh_notifies f j b h = weigh_alike f (λ (u : ℕ). message Notify (on j u)) b h (targets rows j)

  weigh_grants : (f : Kind → Wait → ℕ) (j : ℕ) (b : Bool) → ((v : ℕ) → f Grant (on v j) ≡ cond b 1 0) → weigh f (grant_messages rows j) ≡ cond b (length (waiters rows j)) 0
  weigh_grants f j b h = weigh_alike f (λ (v : ℕ). message Grant (on v j)) b h (waiters rows j)

  grants_to : (x j : ℕ) → weigh (Entries.grant_to x) (grant_messages rows j) ≡ cond (among j (targets rows x)) 1 0
  grants_to x j = one_grant_to j x 0 (waiters rows j) (waiters_rise rows j) ∙ ap (λ (b : Bool). cond b 1 0) (waiters_are_who_waits rows j x)

  -- A reaction by its cases.
  pub at_notify : (P : Act → Type 0) (w : Wait) (r : RunRecord)
      → (r.notified ≡ true → P (record { becomes = r; puts = message Done w ∷ [] }))
      → (r.notified ≡ false → P (spread rows w.target (with_notified_by w r)))
      → P (react rows Notify w r)
  at_notify P w r a b = cond_both r.notified (record { becomes = r; puts = message Done w ∷ [] }) (spread rows w.target (with_notified_by w r)) P a b

  pub at_spread : (P : Act → Type 0) (j : ℕ) (r : RunRecord)
      → (need rows j ≡ 0 → P (and_then (notify_all rows j r) (let_go rows j)))
      → (0 < need rows j → P (notify_all rows j r))
      → P (spread rows j r)
  at_spread P j r a b = cond_both (eqb (need rows j) 0) (and_then (notify_all rows j r) (let_go rows j)) (notify_all rows j r) P (λ e. a (grind (arith, nat_tests))) (λ e. b (grind (arith, nat_tests)))

  pub at_grant : (P : Act → Type 0) (w : Wait) (r : RunRecord)
      → (r.free ≡ false → r.granted + 1 ≡ need rows w.waiter → P (freed_on rows w r))
      → ((r.free ≡ false → r.granted + 1 ≡ need rows w.waiter → ⊥) → P (record { becomes = with_granted (r.granted + 1) r; puts = message Ack w ∷ [] }))
      → P (react rows Grant w r)
  at_grant P w r a b =
      cond_both (not r.free && eqb (r.granted + 1) (need rows w.waiter)) (freed_on rows w r) (record { becomes = with_granted (r.granted + 1) r; puts = message Ack w ∷ [] }) P
      (λ e. a (grind (arith, nat_tests)) (grind (arith, nat_tests))) (λ e. b (λ f g. grind (arith, nat_tests)))

  -- What the puts of a spread, and of a freed job, weigh.
  weigh_spread : (f : Kind → Wait → ℕ) (j : ℕ) (r : RunRecord) → weigh f (spread rows j r).puts ≡ weigh f (notify_messages rows j) + cond (eqb (need rows j) 0) (weigh f (grant_messages rows j)) 0
  weigh_spread f j r =
      let e = weigh_append f (notify_messages rows j) (grant_messages rows j) in
      cond_both (eqb (need rows j) 0) (and_then (notify_all rows j r) (let_go rows j)) (notify_all rows j r)
      (λ (a : Act). weigh f a.puts ≡ weigh f (notify_messages rows j) + cond (eqb (need rows j) 0) (weigh f (grant_messages rows j)) 0) (λ h. grind arith) (λ h. grind arith)

  weigh_freed : (f : Kind → Wait → ℕ) (w : Wait) (r : RunRecord) → weigh f (freed_on rows w r).puts ≡ weigh f (grant_messages rows w.waiter) + cond (eqb (length (waiters rows w.waiter)) 0) (f Ack w) 0
  weigh_freed f w r =
      let e = weigh_append f (grant_messages rows w.waiter) (cond (eqb (length (waiters rows w.waiter)) 0) (message Ack w ∷ []) []) in
      grind (arith, nat_tests)

  -- A job that spreads on a NOTIFY has something due before it closes its notice.
  spread_is_due : (w : Wait) (r : RunRecord) → Entries.Waits rows w → 0 < Entries.due rows w.target (spread rows w.target (with_notified_by w r)).becomes
  spread_is_due w r a = let e = (ok.counts w.target).enough in let k = some_waiter rows ok w.waiter w.target a in grind (arith, nat_tests)

  -- An active job was freed by no GRANT.
  freed_by_none : (j : ℕ) (o : Option Wait) → Entries.FreedBy rows j o → need rows j ≡ 0 → o ≡ None
  freed_by_none j None f z = refl
  freed_by_none j (Some w) f z = absurd (omega (arith, waiter_is_blocked rows ok w.waiter w.target f.1, ap (need rows) f.0))

  pub unspread : (j : ℕ) (r : RunRecord) → Entries.Fair rows j r → r.notified ≡ false → Unspread rows j r
  unspread j r l n = record { unnotified = n; unfree = λ z. (let f = l.active z ∙ n in let u = l.unfree f in (f, u.0, u.1)) }

  -- DONEs due: for each, a NOTIFY or a DONE is on its way, or a job owes one.
  pub spread_dones : (x j : ℕ) (r : RunRecord) (n : ℕ) → Entries.waiter_is x r.notified_by ≡ n → (0 < Entries.due rows j (spread rows j r).becomes) ⊎ (n ≡ 0)
      → Entries.dones_of x j (spread rows j r).becomes + n ≡ weigh (Entries.notice_of x) (spread rows j r).puts + Entries.owes_done rows x j (spread rows j r).becomes
  spread_dones x j r n h d =
      let e = weigh_notifies (Entries.notice_of x) j (eqb j x) (λ u. refl) in
      let f = weigh_grants (Entries.notice_of x) j false (λ v. refl) in
      let g = weigh_spread (Entries.notice_of x) j r in
      elim d [ inl p ↦ grind (arith, nat_tests) | inr z ↦ grind (arith, nat_tests) ]

  pub dones_balance : (x : ℕ) (k : Kind) (w : Wait) (r : RunRecord) → Entries.Fair rows (receiver_on k w) r → Entries.Waits rows w → IsDue rows k w r
      → Entries.dones_of x (receiver_on k w) (react rows k w r).becomes + (Entries.notice_of x k w + Entries.owes_done rows x (receiver_on k w) r)
      ≡ Entries.dones_of x (receiver_on k w) r + (weigh (Entries.notice_of x) (react rows k w r).puts + Entries.owes_done rows x (receiver_on k w) (react rows k w r).becomes)
  dones_balance x Notify w r l o d =
      at_notify (λ a. Entries.dones_of x w.target a.becomes + (Entries.same w.waiter x + Entries.owes_done rows x w.target r)
      ≡ Entries.dones_of x w.target r + (weigh (Entries.notice_of x) a.puts + Entries.owes_done rows x w.target a.becomes)) w r
      (λ e. omega arith)
      (λ e.
      let q = l.unnotified e in
      let s = spread_dones x w.target (with_notified_by w r) (Entries.same w.waiter x) refl (inl (spread_is_due w r o)) in
      let z : Entries.owes_done rows x w.target r ≡ 0 = grind (arith, nat_tests) in
      let y : Entries.dones_of x w.target r ≡ 0 = grind (arith, nat_tests) in
      omega arith)
  dones_balance x Done w r l o d =
      let e = weigh_put_on (Entries.notice_of x) (Entries.waiter_is x) Done refl (λ y. refl) r.notified_by in
      let b = waiter_is_blocked rows ok w.waiter w.target o in
      grind (arith, nat_tests)
  dones_balance x Grant w r l o d =
      let b = waiter_is_blocked rows ok w.waiter w.target o in
      at_grant (λ a. Entries.dones_of x w.waiter a.becomes + (0 + Entries.owes_done rows x w.waiter r)
      ≡ Entries.dones_of x w.waiter r + (weigh (Entries.notice_of x) a.puts + Entries.owes_done rows x w.waiter a.becomes)) w r
      (λ e f. let g = weigh_grants (Entries.notice_of x) w.waiter false (λ y. refl) in let h = weigh_freed (Entries.notice_of x) w r in grind (arith, nat_tests))
      (λ e. grind (arith, nat_tests))
  dones_balance x Ack w r l o d =
      let e = weigh_put_on (Entries.notice_of x) (Entries.waiter_is x) Done refl (λ y. refl) r.notified_by in
      let f = weigh_put_on (Entries.notice_of x) (λ y. 0) Ack refl (λ y. refl) r.freed_by in
      grind (arith, nat_tests)

  -- ACKs due: for each, a GRANT or an ACK is on its way, or a job owes one.
  pub spread_acks : (x j : ℕ) (r : RunRecord) → Unspread rows j r
      → Entries.acks_of x j (spread rows j r).becomes + Entries.owes_ack x j r
      ≡ Entries.acks_of x j r + (weigh (Entries.grant_of x) (spread rows j r).puts + Entries.owes_ack x j (spread rows j r).becomes)
  spread_acks x j r u =
      let g = weigh_spread (Entries.grant_of x) j r in
      let e = weigh_notifies (Entries.grant_of x) j false (λ u. refl) in
      let f = weigh_grants (Entries.grant_of x) j (eqb j x) (λ v. refl) in
      at_spread (λ a. weigh (Entries.grant_of x) a.puts ≡ weigh (Entries.grant_of x) (notify_messages rows j) + cond (eqb (need rows j) 0) (weigh (Entries.grant_of x) (grant_messages rows j)) 0
      → Entries.acks_of x j a.becomes + Entries.owes_ack x j r ≡ Entries.acks_of x j r + (weigh (Entries.grant_of x) a.puts + Entries.owes_ack x j a.becomes)) j r
      (λ z w. let b = u.unfree z in grind (arith, nat_tests)) (λ z w. grind (arith, nat_tests)) g

  pub acks_balance : (x : ℕ) (k : Kind) (w : Wait) (r : RunRecord) → Entries.Fair rows (receiver_on k w) r → Entries.Waits rows w → IsDue rows k w r
      → Entries.acks_of x (receiver_on k w) (react rows k w r).becomes + (Entries.grant_of x k w + Entries.owes_ack x (receiver_on k w) r)
      ≡ Entries.acks_of x (receiver_on k w) r + (weigh (Entries.grant_of x) (react rows k w r).puts + Entries.owes_ack x (receiver_on k w) (react rows k w r).becomes)
  acks_balance x Notify w r l o d =
      at_notify (λ a. Entries.acks_of x w.target a.becomes + (0 + Entries.owes_ack x w.target r)
      ≡ Entries.acks_of x w.target r + (weigh (Entries.grant_of x) a.puts + Entries.owes_ack x w.target a.becomes)) w r
      (λ e. omega arith)
      (λ e. let u = unspread w.target r l e in omega (arith, spread_acks x w.target (with_notified_by w r) (record { unnotified = e; unfree = u.unfree })))
  acks_balance x Done w r l o d =
      let e = weigh_put_on (Entries.grant_of x) (λ y. 0) Done refl (λ y. refl) r.notified_by in
      grind (arith, nat_tests)
  acks_balance x Grant w r l o d =
      at_grant (λ a. Entries.acks_of x w.waiter a.becomes + (Entries.same w.target x + Entries.owes_ack x w.waiter r)
      ≡ Entries.acks_of x w.waiter r + (weigh (Entries.grant_of x) a.puts + Entries.owes_ack x w.waiter a.becomes)) w r
      (λ e f.
      let q = l.unfree e in
      let g = weigh_grants (Entries.grant_of x) w.waiter (eqb w.waiter x) (λ y. refl) in
      let h = weigh_freed (Entries.grant_of x) w r in
      grind (arith, nat_tests))
      (λ e. grind (arith, nat_tests))
  acks_balance x Ack w r l o d =
      let e = weigh_put_on (Entries.grant_of x) (λ y. 0) Done refl (λ y. refl) r.notified_by in
      let f = weigh_put_on (Entries.grant_of x) (Entries.target_is x) Ack refl (λ y. refl) r.freed_by in
      elim (cases_eq (need rows w.target) 0) [
        | inl z ↦ (let n = freed_by_none w.target r.freed_by l.freed_by z in grind (arith, nat_tests))
        | inr z ↦ grind (arith, nat_tests)
      ]

  -- Free targets of x: each has granted x, or its GRANT is on its way.
  pub spread_grants : (x j : ℕ) (r : RunRecord) → Unspread rows j r
      → Entries.free_for rows x j (spread rows j r).becomes + Entries.granted_of x j r
      ≡ Entries.free_for rows x j r + (weigh (Entries.grant_to x) (spread rows j r).puts + Entries.granted_of x j (spread rows j r).becomes)
  spread_grants x j r u =
      let e = weigh_notifies (Entries.grant_to x) j false (λ u. refl) in
      let f = grants_to x j in
      at_spread (λ a. weigh (Entries.grant_to x) a.puts ≡ weigh (Entries.grant_to x) (notify_messages rows j) + cond (eqb (need rows j) 0) (weigh (Entries.grant_to x) (grant_messages rows j)) 0
      → Entries.free_for rows x j a.becomes + Entries.granted_of x j r ≡ Entries.free_for rows x j r + (weigh (Entries.grant_to x) a.puts + Entries.granted_of x j a.becomes)) j r
      (λ z w. let b = u.unfree z in grind (arith, nat_tests)) (λ z w. grind (arith, nat_tests)) (weigh_spread (Entries.grant_to x) j r)

  pub grants_balance : (x : ℕ) (k : Kind) (w : Wait) (r : RunRecord) → Entries.Fair rows (receiver_on k w) r → Entries.Waits rows w
      → Entries.free_for rows x (receiver_on k w) (react rows k w r).becomes + (Entries.grant_to x k w + Entries.granted_of x (receiver_on k w) r)
      ≡ Entries.free_for rows x (receiver_on k w) r + (weigh (Entries.grant_to x) (react rows k w r).puts + Entries.granted_of x (receiver_on k w) (react rows k w r).becomes)
  grants_balance x Notify w r l o =
      at_notify (λ a. Entries.free_for rows x w.target a.becomes + (0 + Entries.granted_of x w.target r)
      ≡ Entries.free_for rows x w.target r + (weigh (Entries.grant_to x) a.puts + Entries.granted_of x w.target a.becomes)) w r
      (λ e. omega arith)
      (λ e. let u = unspread w.target r l e in omega (arith, spread_grants x w.target (with_notified_by w r) (record { unnotified = e; unfree = u.unfree })))
  grants_balance x Done w r l o =
      let e = weigh_put_on (Entries.grant_to x) (λ y. 0) Done refl (λ y. refl) r.notified_by in
      grind (arith, nat_tests)
  grants_balance x Grant w r l o =
      at_grant (λ a. Entries.free_for rows x w.waiter a.becomes + (Entries.same w.waiter x + Entries.granted_of x w.waiter r)
      ≡ Entries.free_for rows x w.waiter r + (weigh (Entries.grant_to x) a.puts + Entries.granted_of x w.waiter a.becomes)) w r
      (λ e f. let g = grants_to x w.waiter in let h = weigh_freed (Entries.grant_to x) w r in grind (arith, nat_tests))
      (λ e. grind (arith, nat_tests))
  grants_balance x Ack w r l o =
      let e = weigh_put_on (Entries.grant_to x) (λ y. 0) Done refl (λ y. refl) r.notified_by in
      let f = weigh_put_on (Entries.grant_to x) (λ y. 0) Ack refl (λ y. refl) r.freed_by in
      grind (arith, nat_tests)

  -- A target y of a notified x is notified, or a NOTIFY to it is on its way.
  pub spread_notifies : (x y j : ℕ) (r : RunRecord) → among y (targets rows x) ≡ true → r.notified ≡ false
      → Entries.notified_of x j (spread rows j r).becomes + (Entries.same j y + Entries.notified_of y j r)
      ≤ Entries.notified_of x j r + (weigh (Entries.notify_on x y) (spread rows j r).puts + Entries.notified_of y j (spread rows j r).becomes)
  spread_notifies x y j r a n =
      let g = weigh_spread (Entries.notify_on x y) j r in
      let k = some_notify x y (targets rows x) a in
      elim (cases_eq j x) [
        | inl e ↦ (
            let here : 1 ≤ weigh (Entries.notify_on x y) (notify_messages rows j) = subst (λ (z : ℕ). 1 ≤ weigh (Entries.notify_on x y) (notify_messages rows z)) (sym e) k in
            grind (arith, nat_tests))
        | inr e ↦ grind (arith, nat_tests)
      ]

  pub notifies_balance : (x y : ℕ) → among y (targets rows x) ≡ true → (k : Kind) (w : Wait) (r : RunRecord) → Entries.notified_of y (receiver_on k w) (react rows k w r).becomes ≡ 0
      → (Entries.notified_of x (receiver_on k w) (react rows k w r).becomes + Entries.notify_on x y k w ≤ Entries.notified_of x (receiver_on k w) r + weigh (Entries.notify_on x y) (react rows k w r).puts)
      × (Entries.notified_of y (receiver_on k w) r ≡ 0)
  notifies_balance x y b Notify w r =
      at_notify (λ a. Entries.notified_of y w.target a.becomes ≡ 0
      → (Entries.notified_of x w.target a.becomes + Entries.notify_on x y Notify w ≤ Entries.notified_of x w.target r + weigh (Entries.notify_on x y) a.puts)
      × (Entries.notified_of y w.target r ≡ 0)) w r
      (λ e h. (grind (arith, nat_tests), h))
      (λ e h.
      let s = spread_notifies x y w.target (with_notified_by w r) b e in
      let z : Entries.notify_on x y Notify w ≤ Entries.same w.target y = grind (arith, nat_tests) in
      (omega arith, grind (arith, nat_tests)))
  notifies_balance x y b Done w r = λ h. (omega arith, h)
  notifies_balance x y b Grant w r =
      at_grant (λ a. Entries.notified_of y w.waiter a.becomes ≡ 0
      → (Entries.notified_of x w.waiter a.becomes + 0 ≤ Entries.notified_of x w.waiter r + weigh (Entries.notify_on x y) a.puts) × (Entries.notified_of y w.waiter r ≡ 0)) w r
      (λ e f h. (omega arith, h)) (λ e h. (omega arith, h))
  notifies_balance x y b Ack w r = λ h. (omega arith, h)

  -- First messages that are still to come: a job puts each once.
  pub spread_ahead : (j : ℕ) (r : RunRecord) → Unspread rows j r → weigh Entries.first (spread rows j r).puts + Entries.ahead rows j (spread rows j r).becomes ≡ Entries.ahead rows j r
  spread_ahead j r u =
      let e = weigh_notifies Entries.first j true (λ u. refl) in
      let f = weigh_grants Entries.first j true (λ v. refl) in
      let n = u.unnotified in
      at_spread (λ a. weigh Entries.first a.puts ≡ weigh Entries.first (notify_messages rows j) + cond (eqb (need rows j) 0) (weigh Entries.first (grant_messages rows j)) 0
      → weigh Entries.first a.puts + Entries.ahead rows j a.becomes ≡ Entries.ahead rows j r) j r
      (λ z w. let b = u.unfree z in grind (arith, nat_tests)) (λ z w. grind (arith, nat_tests)) (weigh_spread Entries.first j r)

  pub ahead_balance : (k : Kind) (w : Wait) (r : RunRecord) → Entries.Fair rows (receiver_on k w) r
      → weigh Entries.first (react rows k w r).puts + Entries.ahead rows (receiver_on k w) (react rows k w r).becomes ≡ Entries.ahead rows (receiver_on k w) r
  ahead_balance Notify w r l =
      at_notify (λ a. weigh Entries.first a.puts + Entries.ahead rows w.target a.becomes ≡ Entries.ahead rows w.target r) w r
      (λ e. omega arith)
      (λ e. let u = unspread w.target r l e in spread_ahead w.target (with_notified_by w r) (record { unnotified = e; unfree = u.unfree }))
  ahead_balance Done w r l = let e = weigh_put_on Entries.first (λ y. 0) Done refl (λ y. refl) r.notified_by in grind (arith, nat_tests)
  ahead_balance Grant w r l =
      at_grant (λ a. weigh Entries.first a.puts + Entries.ahead rows w.waiter a.becomes ≡ Entries.ahead rows w.waiter r) w r
      (λ e f. let g = weigh_grants Entries.first w.waiter true (λ y. refl) in let h = weigh_freed Entries.first w r in grind (arith, nat_tests))
      (λ e. grind (arith, nat_tests))
  ahead_balance Ack w r l =
      let e = weigh_put_on Entries.first (λ y. 0) Done refl (λ y. refl) r.notified_by in
      let f = weigh_put_on Entries.first (λ y. 0) Ack refl (λ y. refl) r.freed_by in
      grind (arith, nat_tests)

  -- Answers: each first message that is delivered makes one, put at once or owed.
  pub first_spread_owes_nothing : (j : ℕ) → weigh Entries.answer (spread rows j blank).puts + Entries.owed rows j (spread rows j blank).becomes ≡ 0
  first_spread_owes_nothing j =
      let e = weigh_notifies Entries.answer j false (λ u. refl) in
      let f = weigh_grants Entries.answer j false (λ v. refl) in
      let g = weigh_spread Entries.answer j blank in
      grind (arith, nat_tests)

  spread_owes_one : (w : Wait) (r : RunRecord) → Entries.Waits rows w → r.notified ≡ false → Entries.Fair rows w.target r
      → weigh Entries.answer (spread rows w.target (with_notified_by w r)).puts + Entries.owed rows w.target (spread rows w.target (with_notified_by w r)).becomes ≡ 1 + Entries.owed rows w.target r
  spread_owes_one w r a n l =
      let e = weigh_notifies Entries.answer w.target false (λ u. refl) in
      let f = weigh_grants Entries.answer w.target false (λ v. refl) in
      let q = l.unnotified n in
      let u = unspread w.target r l n in
      at_spread (λ a. 0 < Entries.due rows w.target a.becomes
      → weigh Entries.answer a.puts ≡ weigh Entries.answer (notify_messages rows w.target) + cond (eqb (need rows w.target) 0) (weigh Entries.answer (grant_messages rows w.target)) 0
      → weigh Entries.answer a.puts + Entries.owed rows w.target a.becomes ≡ 1 + Entries.owed rows w.target r) w.target (with_notified_by w r)
      (λ z p y. let b = u.unfree z in grind (arith, nat_tests)) (λ z p y. grind (arith, nat_tests)) (spread_is_due w r a) (weigh_spread Entries.answer w.target (with_notified_by w r))

  pub owed_balance : (k : Kind) (w : Wait) (r : RunRecord) → Entries.Fair rows (receiver_on k w) r → Entries.Waits rows w → IsDue rows k w r
      → weigh Entries.answer (react rows k w r).puts + (Entries.owed rows (receiver_on k w) (react rows k w r).becomes + Entries.answer k w)
      ≡ Entries.first k w + (Entries.answer k w + Entries.owed rows (receiver_on k w) r)
  owed_balance Notify w r l o d =
      at_notify (λ a. weigh Entries.answer a.puts + (Entries.owed rows w.target a.becomes + 0) ≡ 1 + (0 + Entries.owed rows w.target r)) w r
      (λ e. omega arith) (λ e. omega (arith, spread_owes_one w r o e l))
  owed_balance Done w r l o d =
      let e = weigh_put_on Entries.answer Entries.any Done refl (λ y. refl) r.notified_by in
      let b = waiter_is_blocked rows ok w.waiter w.target o in
      grind (arith, nat_tests)
  owed_balance Grant w r l o d =
      let b = waiter_is_blocked rows ok w.waiter w.target o in
      at_grant (λ a. weigh Entries.answer a.puts + (Entries.owed rows w.waiter a.becomes + 0) ≡ 1 + (0 + Entries.owed rows w.waiter r)) w r
      (λ e f.
      let q = l.unfree e in
      let g = weigh_grants Entries.answer w.waiter false (λ y. refl) in
      let h = weigh_freed Entries.answer w r in
      grind (arith, nat_tests))
      (λ e. grind (arith, nat_tests))
  owed_balance Ack w r l o d =
      let e = weigh_put_on Entries.answer Entries.any Done refl (λ y. refl) r.notified_by in
      let f = weigh_put_on Entries.answer Entries.any Ack refl (λ y. refl) r.freed_by in
      elim (cases_eq (need rows w.target) 0) [
        | inl z ↦ (let n = freed_by_none w.target r.freed_by l.freed_by z in grind (arith, nat_tests))
        | inr z ↦ grind (arith, nat_tests)
      ]

  -- Each record stays fair.
  pub blank_is_fair : (j : ℕ) → Entries.Fair rows j blank
  blank_is_fair j = record { unnotified = λ e. (refl, refl); unfree = λ e. (refl, refl); active = λ e. refl; lacking = λ h e. h; notified_by = tt; freed_by = tt }

  pub spread_is_fair : (j : ℕ) (r : RunRecord) → (r.free ≡ false → (r.acks_due ≡ 0) × (r.freed_by ≡ None)) → (0 < need rows j → r.free ≡ false → r.granted < need rows j)
      → Entries.NotifiedBy rows r.notified_by → Entries.FreedBy rows j r.freed_by → Entries.Fair rows j (spread rows j r).becomes
  spread_is_fair j r unfree lacking by freed =
      at_spread (λ a. Entries.Fair rows j a.becomes) j r
      (λ z. record { unnotified = λ e. absurd (true≢false e); unfree = λ e. absurd (true≢false e); active = λ e. refl; lacking = λ h e. absurd (true≢false e); notified_by = by; freed_by = freed })
      (λ z. record { unnotified = λ e. absurd (true≢false e); unfree = unfree; active = λ e. absurd (omega arith); lacking = lacking; notified_by = by; freed_by = freed })

  pub stays_fair : (k : Kind) (w : Wait) (r : RunRecord) → Entries.Fair rows (receiver_on k w) r → Entries.Waits rows w → Entries.Fair rows (receiver_on k w) (react rows k w r).becomes
  stays_fair Notify w r l o =
      at_notify (λ a. Entries.Fair rows w.target a.becomes) w r
      (λ e. l) (λ e. spread_is_fair w.target (with_notified_by w r) l.unfree l.lacking o l.freed_by)
  stays_fair Done w r l o =
      record { unnotified = λ e. (let q = l.unnotified e in (omega arith, q.1)); unfree = l.unfree; active = l.active; lacking = l.lacking; notified_by = l.notified_by; freed_by = l.freed_by }
  stays_fair Grant w r l o =
      let b = waiter_is_blocked rows ok w.waiter w.target o in
      at_grant (λ a. Entries.Fair rows w.waiter a.becomes) w r
      (λ e f. record { unnotified = l.unnotified; unfree = λ e. absurd (true≢false e); active = λ z. absurd (omega arith); lacking = λ h e. absurd (true≢false e); notified_by = l.notified_by; freed_by = (refl, o) })
      (λ f. record { unnotified = l.unnotified; unfree = l.unfree; active = l.active; lacking = λ h e. (let g = f e in let k = l.lacking h e in omega arith); notified_by = l.notified_by; freed_by = l.freed_by })
  stays_fair Ack w r l o =
      record { unnotified = l.unnotified; unfree = λ e. (let q = l.unfree e in (omega arith, q.1)); active = l.active; lacking = l.lacking; notified_by = l.notified_by; freed_by = l.freed_by }

  -- Every message that is put is on a wait of the table.
  done_on_wait : (o : Option Wait) → Entries.NotifiedBy rows o → AllByRecursion (Entries.OnWait rows) (put_on Done o)
  done_on_wait None a = tt
  done_on_wait (Some w) a = (a, tt)

  ack_on_wait : (j : ℕ) (o : Option Wait) → Entries.FreedBy rows j o → AllByRecursion (Entries.OnWait rows) (put_on Ack o)
  ack_on_wait j None a = tt
  ack_on_wait j (Some w) a = (a.1, tt)

  notifies_on_waits : (j : ℕ) → AllByRecursion (Entries.OnWait rows) (notify_messages rows j)
  notifies_on_waits j = All-map (Entries.OnWait rows) (λ (u : ℕ). message Notify (on j u)) (targets rows j) (each_is_among (targets rows j))

  grants_on_waits : (j : ℕ) → AllByRecursion (Entries.OnWait rows) (grant_messages rows j)
  grants_on_waits j = All-map (Entries.OnWait rows) (λ (v : ℕ). message Grant (on v j)) (waiters rows j) (each_waiter_waits rows ok j)

  pub spread_on_waits : (j : ℕ) (r : RunRecord) → AllByRecursion (Entries.OnWait rows) (spread rows j r).puts
  spread_on_waits j r =
      at_spread (λ a. AllByRecursion (Entries.OnWait rows) a.puts) j r
      (λ z. All-append (Entries.OnWait rows) (notify_messages rows j) (grant_messages rows j) (notifies_on_waits j) (grants_on_waits j)) (λ z. notifies_on_waits j)

  pub puts_on_waits : (k : Kind) (w : Wait) (r : RunRecord) → Entries.Fair rows (receiver_on k w) r → Entries.Waits rows w → AllByRecursion (Entries.OnWait rows) (react rows k w r).puts
  puts_on_waits Notify w r l o = at_notify (λ a. AllByRecursion (Entries.OnWait rows) a.puts) w r (λ e. (o, tt)) (λ e. spread_on_waits w.target (with_notified_by w r))
  puts_on_waits Done w r l o =
      cond_both (eqb (r.dones_due - 1) 0) (put_on Done r.notified_by) [] (AllByRecursion (Entries.OnWait rows)) (λ e. done_on_wait r.notified_by l.notified_by) (λ e. tt)
  puts_on_waits Grant w r l o =
      at_grant (λ a. AllByRecursion (Entries.OnWait rows) a.puts) w r
      (λ e f. All-append (Entries.OnWait rows) (grant_messages rows w.waiter) (cond (eqb (length (waiters rows w.waiter)) 0) (message Ack w ∷ []) []) (grants_on_waits w.waiter)
      (cond_both (eqb (length (waiters rows w.waiter)) 0) (message Ack w ∷ []) [] (AllByRecursion (Entries.OnWait rows)) (λ e. (o, tt)) (λ e. tt)))
      (λ e. (o, tt))
  puts_on_waits Ack w r l o =
      cond_both (eqb (r.acks_due - 1) 0) (cond (eqb (need rows w.target) 0) (put_on Done r.notified_by) (put_on Ack r.freed_by)) [] (AllByRecursion (Entries.OnWait rows))
      (λ e. cond_both (eqb (need rows w.target) 0) (put_on Done r.notified_by) (put_on Ack r.freed_by) (AllByRecursion (Entries.OnWait rows))
      (λ e. done_on_wait r.notified_by l.notified_by) (λ e. ack_on_wait w.target r.freed_by l.freed_by))
      (λ e. tt)

  -- A job that is free now was free, or has been granted what it needs.
  pub freed_by_grants : (k : Kind) (w : Wait) (r : RunRecord) → (react rows k w r).becomes.free ≡ true → (r.free ≡ true) ⊎ (need rows (receiver_on k w) ≤ r.granted + Entries.grant_to (receiver_on k w) k w)
  freed_by_grants Notify w r =
      at_notify (λ a. a.becomes.free ≡ true → (r.free ≡ true) ⊎ (need rows w.target ≤ r.granted + 0)) w r
      (λ e h. inl h)
      (λ e. at_spread (λ a. a.becomes.free ≡ true → (r.free ≡ true) ⊎ (need rows w.target ≤ r.granted + 0)) w.target (with_notified_by w r) (λ z h. inr (omega arith)) (λ z h. inl h))
  freed_by_grants Done w r = λ h. inl h
  freed_by_grants Grant w r =
      at_grant (λ a. a.becomes.free ≡ true → (r.free ≡ true) ⊎ (need rows w.waiter ≤ r.granted + Entries.same w.waiter w.waiter)) w r
      (λ e f h. inr (grind (arith, nat_tests))) (λ e h. inl h)
  freed_by_grants Ack w r = λ h. inl h

  pub spread_notified : (j : ℕ) (r : RunRecord) → (spread rows j r).becomes.notified ≡ true
  spread_notified j r = at_spread (λ a. a.becomes.notified ≡ true) j r (λ z. refl) (λ z. refl)

  pub stays_notified : (k : Kind) (w : Wait) (r : RunRecord) → r.notified ≡ true → (react rows k w r).becomes.notified ≡ true
  stays_notified Notify w r n = at_notify (λ a. a.becomes.notified ≡ true) w r (λ e. n) (λ e. spread_notified w.target (with_notified_by w r))
  stays_notified Done w r n = n
  stays_notified Grant w r n = at_grant (λ a. a.becomes.notified ≡ true) w r (λ e f. n) (λ e. n)
  stays_notified Ack w r n = n

  -- Only a NOTIFY makes a job notified.
  pub notified_by_notify : (k : Kind) (w : Wait) (r : RunRecord) → (react rows k w r).becomes.notified ≡ true → (r.notified ≡ true) ⊎ (k ≡ Notify)
  notified_by_notify Notify w r n = inr refl
  notified_by_notify Done w r n = inl n
  notified_by_notify Grant w r n = at_grant (λ a. a.becomes.notified ≡ true → (r.notified ≡ true) ⊎ (Grant ≡ Notify)) w r (λ e f n. inl n) (λ e n. inl n) n
  notified_by_notify Ack w r n = inl n

  -- What becomes of the waits that a record names, and that a free job stays free.
  pub notified_by_stays_or_is_noted : (k : Kind) (w : Wait) (r : RunRecord)
      → ((react rows k w r).becomes.notified_by ≡ r.notified_by) ⊎ ((k ≡ Notify) × (r.notified ≡ false) × ((react rows k w r).becomes.notified_by ≡ Some w))
  notified_by_stays_or_is_noted Notify w r =
      at_notify (λ a. (a.becomes.notified_by ≡ r.notified_by) ⊎ ((Notify ≡ Notify) × (r.notified ≡ false) × (a.becomes.notified_by ≡ Some w))) w r
      (λ e. inl refl)
      (λ e. inr (refl, e, at_spread (λ a. a.becomes.notified_by ≡ Some w) w.target (with_notified_by w r) (λ z. refl) (λ z. refl)))
  notified_by_stays_or_is_noted Done w r = inl refl
  notified_by_stays_or_is_noted Grant w r = inl (at_grant (λ a. a.becomes.notified_by ≡ r.notified_by) w r (λ e f. refl) (λ e. refl))
  notified_by_stays_or_is_noted Ack w r = inl refl

  pub freed_by_stays_or_is_noted : (k : Kind) (w : Wait) (r : RunRecord)
      → ((react rows k w r).becomes.freed_by ≡ r.freed_by) ⊎ ((k ≡ Grant) × (r.free ≡ false) × ((react rows k w r).becomes.freed_by ≡ Some w))
  freed_by_stays_or_is_noted Notify w r =
      inl (at_notify (λ a. a.becomes.freed_by ≡ r.freed_by) w r (λ e. refl)
      (λ e. at_spread (λ a. a.becomes.freed_by ≡ r.freed_by) w.target (with_notified_by w r) (λ z. refl) (λ z. refl)))
  freed_by_stays_or_is_noted Done w r = inl refl
  freed_by_stays_or_is_noted Grant w r =
      at_grant (λ a. (a.becomes.freed_by ≡ r.freed_by) ⊎ ((Grant ≡ Grant) × (r.free ≡ false) × (a.becomes.freed_by ≡ Some w))) w r
      (λ e f. inr (refl, e, refl)) (λ e. inl refl)
  freed_by_stays_or_is_noted Ack w r = inl refl

  pub stays_free : (k : Kind) (w : Wait) (r : RunRecord) → r.free ≡ true → (react rows k w r).becomes.free ≡ true
  stays_free Notify w r f =
      at_notify (λ a. a.becomes.free ≡ true) w r (λ e. f)
      (λ e. at_spread (λ a. a.becomes.free ≡ true) w.target (with_notified_by w r) (λ z. refl) (λ z. f))
  stays_free Done w r f = f
  stays_free Grant w r f = at_grant (λ a. a.becomes.free ≡ true) w r (λ e g. refl) (λ e. f)
  stays_free Ack w r f = f

  pub receiver_is_a_job : (k : Kind) (w : Wait) → Entries.Waits rows w → receiver_on k w < length rows
  receiver_is_a_job Notify w o = ok.below w.waiter w.target o
  receiver_is_a_job Done w o = who_waits_is_a_job rows w.waiter w.target o
  receiver_is_a_job Grant w o = who_waits_is_a_job rows w.waiter w.target o
  receiver_is_a_job Ack w o = ok.below w.waiter w.target o
