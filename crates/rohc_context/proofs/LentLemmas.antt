-- The payload of a packet that is delivered stood behind the header of the packet that arrived.
use Rattle.std.proofs.Common.{◌≡◌, ℕ, ◌-◌, ◌≤◌, List, [], ◌∷◌, ◌++◌, length, Bool, true, false, Option, Some, Result, Ok, Err, inl, inr, arith, refl, sym, ap, subst}
use Rattle.std.specs.Prelude.{All, IfSome, nat_lt}
use Rattle.std.proofs.lemmas.List.{length-append}
use Rattle.rohc_bits.specs.Bits.{IsOctet}
use Rattle.rohc_frame.specs.declared.header.HeadKind.TheVariants.{IrDyn}
use Rattle.rohc_frame.specs.Header.{Header, IsIrDyn}
use Rattle.rohc_header.specs.declared.fields.Static.{Static}
use Rattle.rohc_header.specs.declared.fields.Dynamic.{Dynamic}
use Rattle.rohc_header.specs.Original.{longest_payload}
use Rattle.rohc_chain.specs.Packets.{IrContent, DynContent, kept_values}
use Rattle.rohc_chain.specs.Packets as chain
use Rattle.rohc_chain.specs.Texts.{IsIrText}
use Rattle.rohc_chain.proofs.TextLemmas.{ir_text, dyn_text}
use Rattle.rohc_forms.specs.declared.refusal.FormRefusal.{FormRefusal}
use Rattle.rohc_forms.specs.Content.{Content}
use Rattle.rohc_forms.specs.Says.{IsForm}
use Rattle.rohc_forms.proofs.SaysLemmas.{reads}
use Rattle.rohc_context.specs.Settings.{limits}
use Rattle.rohc_context.proofs.Common.{gives}
use Rattle.rohc_context.specs.declared.settings.Settings.{Settings}
use Rattle.rohc_context.specs.Record.{State, Reference, Record}
use Rattle.rohc_context.specs.Window.{and_outcome}
use Rattle.rohc_context.specs.Response.{Packet, Response}
use Rattle.rohc_context.specs.Renewal.{Renewed, state_in}
use Rattle.rohc_context.specs.Refresh.{kept_by, dyn_said}
use Rattle.rohc_context.specs.Tries.{Try, Acceptance, Verdict, static_tries, full_tries}
use Rattle.rohc_context.specs.Update.{said_under, VerdictUnless, Judges}
use Rattle.rohc_context.specs.Step.{counting, Answers, arrival}
use Rattle.rohc_context.specs.Laws.{LendsPayload}
use Rattle.rohc_context.proofs.Cases.{Rebuilds, Case, step_case, renews, strays, refuses, checks, lows, restores, refreshes, normal, promotes, updates}

-- the packet of an answer, if there is one, has a payload of so many octets at most
abbrev Within : ℕ → Response → Type 0
Within most a = IfSome a.packet (λ (p : Packet). length p.payload ≤ most)

-- it is this answer's
same_answer : (most : ℕ) (a answer : Response) → a ≡ answer → Within most answer → Within most a
same_answer most a answer e within = subst (Within most) (sym e) within

-- an IR's payload stands behind its chains
said_within : (h : Header) (content : IrContent) → IsIrText h content → (state : Option State) (s : Settings) (m : ℕ) (a : Response) (x : Option Record)
    → Answers s h (Renewed (arrival s m h) state content) a x → Within (length h.rest) a
said_within h (chain.Plain []) text state s m a x (e, f, p) = same_answer (length h.rest) a _ (gives s h e _ a x f p).0 tt
said_within h (chain.Plain (octet ∷ packet)) text state s m a x (e, f, p) = same_answer (length h.rest) a _ (gives s h e _ a x f p).0 (omega (arith, ap length text.whole))
said_within h (chain.StaticOnly fixed) text state s m a x (e, f, p) = same_answer (length h.rest) a _ (gives s h e _ a x f p).0 tt
said_within h (chain.Whole fixed moving payload) text state s m a x (e, (octets, is, f), p) =
    same_answer (length h.rest) a _ (gives s h e _ a x f p).0
    (omega (arith, ap length text.whole, length-append text.static_chain (text.dynamic_chain ++ payload), length-append text.dynamic_chain payload))

-- an IR-DYN's behind its chain
delivers_within : (s : Settings) (m : ℕ) (h : Header) (fixed : Static) (moving : Dynamic) (payload : List ℕ) (window : List Bool) (a : Response) (x : Option Record)
    → length payload ≤ length h.rest → Rebuilds s m h fixed moving payload window a x → Within (length h.rest) a
delivers_within s m h fixed moving payload window a x short (octets, is, taken) = same_answer (length h.rest) a _ taken.0 short

dyn_short : (h : Header) (reference : Option Reference) (d : DynContent) → h.kind ≡ IrDyn → All IsOctet h.rest → dyn_said h reference ≡ Ok d → length d.payload ≤ length h.rest
dyn_short h reference d kind all read =
    let is : IsIrDyn h.kind = subst IsIrDyn (sym kind) tt in
    let text = (dyn_text h 1 (kept_values (kept_by reference).0 (kept_by reference).1) d is (omega arith) all read).0 in
    omega (arith, ap length text.whole, length-append text.chain d.payload)

-- that of a packet of kind Other behind its base, its extension and two words
form_short : (h : Header) (rnd carries_sum stride_known : Bool) (c : Content) → IsForm h rnd carries_sum stride_known c → length c.payload ≤ length h.rest
form_short h rnd carries_sum stride_known c (head, head_front, head_behind, head_whole, is_head, (id, id_front, id_behind, id_whole, is_id, (checksum, sum_front, sum_behind, sum_whole, is_sum, is_payload))) =
    omega (
      arith,
      ap length head_whole,
      ap length id_whole,
      ap length sum_whole,
      length-append head_front head_behind,
      length-append id_front id_behind,
      length-append sum_front sum_behind,
      ap (λ (k : Content). length k.payload) is_payload,
    )

said_short : (h : Header) (reference : Reference) (c : Content) → said_under h reference ≡ Ok c → length c.payload ≤ length h.rest
said_short h reference c e = form_short h _ _ _ c ((reads h _ _ _ c).0 e)

-- the verdict is of what the packet says
verdict_of : (fixed : Static) (c : Content) (tries : List Try) (a : Acceptance) → Verdict fixed c tries (Ok a) → a.content ≡ c
verdict_of fixed c [] a e = cc
verdict_of fixed c (t ∷ more) a (inl (h, fits, e)) = cc
verdict_of fixed c (t ∷ more) a (inr (misses, rest)) = verdict_of fixed c more a rest

unless_of : (long : Bool) (fixed : Static) (c : Content) (tries : List Try) (a : Acceptance) → VerdictUnless long fixed c tries (Ok a) → a.content ≡ c
unless_of true fixed c tries a e = cc
unless_of false fixed c tries a p = verdict_of fixed c tries a p

judged_short : (fixed : Static) (tries : Content → List Try) (read : Result Content FormRefusal) (most : ℕ) (a : Acceptance) → ((c : Content) → read ≡ Ok c → length c.payload ≤ most)
    → Judges fixed tries read (Ok a) → length a.content.payload ≤ most
judged_short fixed tries (Err refusal) most a short e = cc
judged_short fixed tries (Ok c) most a short p =
    subst (λ (k : Content). length k.payload ≤ most) (sym (unless_of (nat_lt longest_payload (length c.payload)) fixed c (tries c) a p)) (short c refl)

tried_short : (h : Header) (fixed : Static) (tries : Content → List Try) (reference : Reference) (v : Acceptance) → Judges fixed tries (said_under h reference) (Ok v)
    → length v.content.payload ≤ length h.rest
tried_short h fixed tries reference v judges = judged_short fixed tries (said_under h reference) (length h.rest) v (said_short h reference) judges

pub step_lends : LendsPayload
step_lends before s m h a x all step = go (step_case before s m h a x step) where
  most : ℕ
  most = length h.rest

  go : Case before s m h a x → Within most a
  go (renews content ir read p) = said_within h content (ir_text h content ir all read).0 (state_in (counting s m before)) s m a x p
  go (strays refusal none which f g) = same_answer most a _ f tt
  go (refuses refusal of_octets f g) = same_answer most a _ f tt
  go (checks r is p) = same_answer most a _ p.0 tt
  go (lows r is low p) = same_answer most a _ p.0 tt
  go (restores r fixed reference f g d is kind e read p) = delivers_within s m h fixed d.moving d.payload [] a x (dyn_short h reference d kind all read) p
  go (refreshes r fixed reference previous w d is kind e read p) = delivers_within s m h fixed d.moving d.payload (and_outcome false w) a x (dyn_short h (Some reference) d kind all read) p
  go (normal r is kind e p) = same_answer most a _ p.0 (omega arith)
  go (promotes r fixed reference f g v is kind e judges p) = same_answer most a _ p.0 (tried_short h fixed (λ c. static_tries reference) reference v judges)
  go (updates r fixed reference previous w v is kind e judges p) = same_answer most a _ p.0 (tried_short h fixed (full_tries (limits s) (m - r.accepted) reference previous) reference v judges)
