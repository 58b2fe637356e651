-- Of two files that got one name, the one that got it later has it.
use Rattle.tftp_words.proofs.Common.{◌≡◌, ◌∙◌, ℕ, Bool, true, false, List, [], ◌∷◌, ◌++◌, length, Ok, Err, refl, sym}
use Rattle.tftp_words.proofs.Common.{ap, subst, zero, suc, inl, inr, arith, ◌+◌, ◌<◌, length-append, ◌≢◌, ◌⊎◌, ◌==◌}
use Rattle.tftp_words.proofs.Common.{cond-true, cond-false, eqb-false, ne_eqb, DiskEvent, Looked, Made, Linked, Renamed}
use Rattle.tftp_words.proofs.Common.{Removed, AllLeave, LeavesPath, IsFreeLocked, lock_of, KeepLock, Agrees, AllLeaveIt}
use Rattle.tftp_words.proofs.Common.{AllKeepLock, AnswersAgree, FolderCall, GivesTo, IsLinkTo, calls_by, Makes}
use Rattle.tftp_folder.specs.Changing.{HoldsLock}
use Rattle.tftp_folder.specs.Locks.{KeepsLock}
use Rattle.tftp_words.specs.SharedFolder.{HasName, IsLater, IsNamed, OneHasTheName, Overlaps}
use Rattle.tftp_words.proofs.SharedCalls.{agree_after, all_keep_after, calls_after, found, gives_no_look}
use Rattle.tftp_words.proofs.SharedCalls.{gives_not_left, leave_after, left_after, nothing_asked, own_call, places}
use Rattle.tftp_words.proofs.SharedCalls.Places.{After, Before, One}

-- what neither its holder nor its maker can have done
leaves_by : (lock : List ℕ) (event : DiskEvent) (own : List DiskEvent) (before : List FolderCall)
    → KeepsLock lock event own → (HoldsLock lock own → ⊥) → Agrees event before → HasName lock before
    → LeavesPath lock event
leaves_by lock (Made at (Ok done)) own before keeps none agrees has =
    λ same. agrees (subst (λ (l : List ℕ). HasName l before) same has)
leaves_by lock (Linked file from to (Ok done)) own before keeps none agrees has =
    λ same. agrees (subst (λ (l : List ℕ). HasName l before) same has)
leaves_by lock (Renamed file from to (Ok done)) own before keeps none agrees has =
    (λ same. none (keeps (inl same)), λ same. none (keeps (inr same)))
leaves_by lock (Removed at (Ok done)) own before keeps none agrees has = λ same. none (keeps same)
leaves_by lock event own before keeps none agrees has = tt

module _ (lock : List ℕ) where
  abbrev made : DiskEvent
  made = Made lock (Ok tt)

  there : (p : ℕ) (c rest : List FolderCall) → AllLeaveIt lock c → HasName lock (c ++ (p, made) ∷ rest)
  there p c rest left = record {
    since = c;
    program = p;
    call = made;
    before = rest;
    is = refl;
    gives = Makes refl;
    left = left;
  }

  -- a lock that a program made is there as long as its own calls leave it
  abbrev Stays : ℕ → Type 0
  Stays fuel =
      (p : ℕ) (c rest : List FolderCall) → length c + length rest < fuel
      → AnswersAgree (c ++ (p, made) ∷ rest) → AllKeepLock lock (c ++ (p, made) ∷ rest)
      → AllLeave lock (calls_by p c) → AllLeaveIt lock c

  -- no other program can hold it then
  none_else : (fuel : ℕ) → Stays fuel → (p q : ℕ) (c rest : List FolderCall) → length c + length rest < fuel
      → AnswersAgree (c ++ (p, made) ∷ rest) → AllKeepLock lock (c ++ (p, made) ∷ rest)
      → AllLeaveIt lock c → p ≢ q → HoldsLock lock (calls_by q (c ++ (p, made) ∷ rest)) → ⊥
  none_else fuel stays p q c rest long agree keep left other holds =
      let f = found q (c ++ (p, made) ∷ rest) holds.since made holds.before holds.made in
      elim (places (p, made) (q, made) c rest f.newer f.older f.is) [
        | One same more ↦ other (ap (λ (x : FolderCall). x.0) same)
        | Before b is more ↦
            -- it was made anew while it was there
            (left_after lock f.newer (q, made) b is left).0 refl
        | After b is more ↦
            -- it was there when this program made it
            let own = agree_after c (p, made) rest refl agree in
            let its : calls_by q c ++ calls_by q ((p, made) ∷ b) ≡ holds.since =
            sym (calls_after q c ((p, made) ∷ b)) ∙ (ap (calls_by q) (sym is) ∙ f.before) in
            let its_left : AllLeave lock (calls_by q b) =
            subst (AllLeave lock) (cond-false (p == q) (made ∷ calls_by q b) (calls_by q b) (ne_eqb p q other))
            (leave_after lock (calls_by q c) (calls_by q ((p, made) ∷ b)) (subst (AllLeave lock) (sym its) holds.left)) in
            let size : length rest ≡ length b + suc (length f.older) =
            ap (λ (l : List FolderCall). length l) more ∙ length-append b ((q, made) ∷ f.older) in
            own.0
            (subst (HasName lock) (sym more)
            (there q b f.older
            (stays q b f.older (omega (arith, long, size)) (subst AnswersAgree more own.1)
            (subst (AllKeepLock lock) more (all_keep_after lock c (p, made) rest refl keep)) its_left)))
      ]

  -- one more call leaves it, if those before it did
  leaves_next : (fuel : ℕ) → Stays fuel → (p : ℕ) (x : FolderCall) (c rest : List FolderCall)
      → length c + length rest < fuel → Agrees x.1 (c ++ (p, made) ∷ rest)
      → AnswersAgree (c ++ (p, made) ∷ rest) → AllKeepLock lock (x ∷ (c ++ (p, made) ∷ rest))
      → AllLeave lock (calls_by p (x ∷ c)) → AllLeaveIt lock c → (own : Bool) → (x.0 == p) ≡ own
      → LeavesPath lock x.1
  leaves_next fuel stays p x c rest long agrees agree keep left later true own =
      (subst (AllLeave lock) (cond-true (x.0 == p) (x.1 ∷ calls_by p c) (calls_by p c) own) left).0
  leaves_next fuel stays p x c rest long agrees agree keep left later false own =
      let order = c ++ (p, made) ∷ rest in
      leaves_by lock x.1 (calls_by x.0 order) order
      (subst (KeepLock lock) (own_call x.0 x.1 order) (keep x.0)).0
      (none_else fuel stays p x.0 c rest long agree (all_keep_after lock [] x order refl keep) later
      (λ same. eqb-false x.0 p own (sym same)))
      agrees (there p c rest later)

  stays : (fuel : ℕ) → Stays fuel
  stays zero p c rest long agree keep left = absurd (omega (arith, long))
  stays (suc fuel) p [] rest long agree keep left = tt
  stays (suc fuel) p (x ∷ c) rest long agree keep left =
      let order = c ++ (p, made) ∷ rest in
      let later = stays fuel p c rest (omega (arith, long)) agree.1 (all_keep_after lock [] x order refl keep)
      (leave_after lock (calls_by p (x ∷ [])) (calls_by p c) (subst (AllLeave lock) (calls_after p (x ∷ []) c) left)) in (
        leaves_next fuel (stays fuel) p x c rest (omega (arith, long)) agree.0 agree.1 keep left later (x.0 == p) refl,
        later,
      )

  -- two programs that made it, of which each left it up to here: they are one
  made_once : (order : List FolderCall) (p q : ℕ) (p_since p_before q_since q_before : List DiskEvent)
      → AnswersAgree order → AllKeepLock lock order → calls_by p order ≡ p_since ++ made ∷ p_before
      → AllLeave lock p_since → calls_by q order ≡ q_since ++ made ∷ q_before → AllLeave lock q_since → p ≢ q → ⊥
  made_once order p q p_since p_before q_since q_before agree keep p_is p_left q_is q_left other =
      let f = found p order p_since made p_before p_is in
      let fuel = suc (length f.newer + length f.older) in
      let agree' = subst AnswersAgree f.is agree in
      let keep' = subst (AllKeepLock lock) f.is keep in
      let left = stays fuel p f.newer f.older (omega arith) agree' keep'
      (subst (AllLeave lock) (sym f.before) p_left) in
      none_else fuel (stays fuel) p q f.newer f.older (omega arith) agree' keep' left other
      (record {
        since = q_since;
        before = q_before;
        made = ap (calls_by q) (sym f.is) ∙ q_is;
        left = q_left;
      })

module _ {order : List FolderCall} {target : List ℕ} {i j : ℕ} {may_replace replaces : Bool} (agree : AnswersAgree order)
    (first : IsNamed order target i may_replace) (second : IsNamed order target j replaces) (between : List FolderCall)
    (newer : first.newer ≡ second.newer ++ (j, second.call) ∷ between)
    (older : second.older ≡ between ++ (i, first.call) ∷ first.older) where
  lost : AllLeaveIt target first.newer → ⊥
  lost left =
      gives_not_left target second.call second.gives
      (left_after target second.newer (j, second.call) between newer left).0

  here : Agrees second.call second.older × AnswersAgree second.older
  here = agree_after second.newer (j, second.call) second.older second.at agree

  module _ (left : AllLeaveIt target between) where
    has : HasName target second.older
    has = record {
      since = between;
      program = i;
      call = first.call;
      before = first.older;
      is = older;
      gives = first.gives;
      left = left;
    }

    no_link : IsLinkTo target second.call → ⊥
    no_link (file, from, is) = (subst (λ (c : DiskEvent). Agrees c second.older) is here.0) has

    -- between its look and its rename the second asked nothing
    calls_of_second : (calls : List DiskEvent) → calls_by j second.older ≡ calls → calls_by j between ≡ []
        → i ≢ j → calls_by j first.older ≡ calls
    calls_of_second calls is nothing other =
        sym (cond-false (i == j) (first.call ∷ calls_by j first.older) (calls_by j first.older) (ne_eqb i j other))
        ∙ (ap (λ (l : List DiskEvent). l ++ calls_by j ((i, first.call) ∷ first.older)) (sym nothing)
        ∙ (sym (calls_after j between ((i, first.call) ∷ first.older)) ∙ (ap (calls_by j) (sym older) ∙ is)))

    first_keep : AllKeepLock (lock_of target) order → AllKeepLock (lock_of target) first.older
    first_keep keep =
        all_keep_after (lock_of target) between (i, first.call) first.older older
        (all_keep_after (lock_of target) second.newer (j, second.call) second.older second.at keep)

    -- while the second held the lock, the first got the name without it, if all keep to the lock
    by_whom : (look : DiskEvent) (before : List DiskEvent)
        → calls_by j first.older ≡ look ∷ (Made (lock_of target) (Ok tt) ∷ before)
        → LeavesPath (lock_of target) look → i ≢ j
        → (may : Bool) → may_replace ≡ may → AllKeepLock (lock_of target) order
        → IsLinkTo target first.call ⊎ (may_replace ≡ true)
    by_whom look before own leaves other true may keep = inr may
    by_whom look before own leaves other false may keep = elim (first.free may) [
      | inl link ↦ inl link
      | inr (before', error, none, looked) ↦
          absurd (made_once (lock_of target) first.older i j (Looked target (Err error) ∷ []) before'
          (look ∷ []) before (agree_after between (i, first.call) first.older older here.1).1 (first_keep keep) looked
          (tt, tt) own (leaves, tt) other)
    ]

    overlaps : IsFreeLocked target (calls_by j second.older) → Overlaps first second between
    overlaps (before, error, none, looked) =
        let look = Looked target (Err error) in
        let f = found j second.older [] look (Made (lock_of target) (Ok tt) ∷ before) looked in
        elim (places (j, look) (i, first.call) f.newer f.older between first.older (sym f.is ∙ older)) [
          | One same rest ↦
              let e : look ≡ first.call = ap (λ (c : FolderCall). c.1) same in
              absurd (gives_no_look target target (Err error) (subst (GivesTo target) (sym e) first.gives))
          | Before b is more ↦
              let nothing = nothing_asked j between (i, first.call) b
              (ap (calls_by j) (sym is) ∙ f.before) in
              let own : calls_by j first.older ≡ look ∷ (Made (lock_of target) (Ok tt) ∷ before) =
              calls_of_second (look ∷ (Made (lock_of target) (Ok tt) ∷ before)) looked nothing.0 nothing.1 in
              record {
                other = nothing.1;
                renamed = no_link;
                nothing = nothing.0;
                unlocked = by_whom look before own tt nothing.1 may_replace refl;
              }
          | After b is more ↦
              absurd ((agree_after f.newer (j, look) f.older f.is here.1).0 none (record {
                since = b;
                program = i;
                call = first.call;
                before = first.older;
                is = more;
                gives = first.gives;
                left = (left_after target f.newer (j, look) b is left).1;
              }))
        ]

  pub later : IsLater first second
  later = record {
    between = between;
    after = older;
    lost = lost;
    taken =
        λ no left. elim (second.free no) [
          | inl link ↦ absurd (no_link left link)
          | inr free ↦ overlaps left free
        ];
  }

pub one_has_it : OneHasTheName
one_has_it order target i j may_replace replaces agree first second =
    elim (places (i, first.call) (j, second.call) first.newer first.older second.newer second.older
    (sym first.at ∙ second.at)) [
      | One same rest ↦ inl (ap (λ (c : FolderCall). c.0) same, rest)
      | Before b is more ↦ inr (inl (later agree first second b is more))
      | After b is more ↦ inr (inr (later agree second first b is more))
    ]
