-- What a reader's parts say lies in its ranges, and so does what is made of them.
use Rattle.std.proofs.Common.{◌≡◌, ℕ, ◌<◌, ◌≤◌, ◌^◌, Bool, true, false, List, Option, Some, None, Result, Ok, Err, refl, sym, ap, subst, ◌∙◌, arith}
use Rattle.std.specs.Prelude.{All, ◌||◌, IfOk, IfSome, is_some, option_map, if◌then◌else◌}
use Rattle.std.specs.Option.{ForSome}
use Rattle.std.specs.Result.{result_map_both}
use Rattle.rohc_bits.specs.declared.bits.Bits.{Bits}
use Rattle.rohc_bits.specs.LowBits.{low_bits}
use Rattle.rohc_frame.specs.Header.{Header}
use Rattle.rohc_frame.specs.Laws.{IsOctet}
use Rattle.rohc_forms.specs.declared.form.Form.{Form}
use Rattle.rohc_forms.specs.declared.form.Values.{Values}
use Rattle.rohc_forms.specs.declared.refusal.FormRefusal.{FormRefusal}
use Rattle.rohc_forms.specs.declared.form.IdBits.{IdBits}
use Rattle.rohc_forms.specs.declared.form.IdBits.TheVariants.{Same, Offset, Whole}
use Rattle.rohc_forms.specs.Octets.{read, word_if}
use Rattle.rohc_forms.specs.Kinds.{is_whole, offset_in}
use Rattle.rohc_forms.specs.Content.{Head, offset_said, whole_said, stride_given, whole_content}
use Rattle.rohc_forms.specs.Packets.{id_by, values_by, content, stride_in, head_at, form_at}
use Rattle.rohc_forms.specs.Good.{IsBits, IsGoodContent}
use Rattle.rohc_forms.proofs.GoodLemmas.{says_good}
use Rattle.rohc_forms.proofs.SaysLemmas.{reads}

pub parts_good : (h : Header) (rnd udp_sum known : Bool) (head : Head) (id sum : Option ℕ) (a b payload : List ℕ) → All IsOctet h.rest →
    read (head_at h.first rnd known) h.rest ≡ Ok (head, a) → read (word_if head.rnd) a ≡ Ok (id, b) → read (word_if udp_sum) b ≡ Ok (sum, payload) →
    IsGoodContent h.first udp_sum known (whole_content head id sum payload)
unfolding form_at
parts_good h rnd udp_sum known head id sum a b payload all is_head is_id is_sum =
    let is : form_at h rnd udp_sum known ≡ Ok (whole_content head id sum payload) = rw (is_head, is_id, is_sum) refl in
    says_good h rnd udp_sum known (whole_content head id sum payload) all ((reads h rnd udp_sum known (whole_content head id sum payload)).0 is)

-- the code's bits
pub some_bits : (least most : ℕ) (bits : Option Bits) → IfSome (option_map low_bits bits) (IsBits least most) → ForSome bits (λ b. least ≤ b.count)
some_bits least most None is b e = cc
some_bits least most (Some bits) is b e = let same : bits ≡ b = cc in subst (λ (b : Bits). least ≤ b.count) same is.some

offset_bits : (id : IdBits) → IfSome (offset_said (id_by id)) (IsBits 1 16) → IfSome (option_map low_bits (offset_in id)) (IsBits 1 16)
offset_bits Same is = is
offset_bits (Offset bits) is = is
offset_bits (Whole id) is = is

narrow_bits : (least most : ℕ) (bits : Option Bits) → IfSome (option_map low_bits bits) (IsBits least most) → ForSome bits (λ b. b.count ≤ most)
narrow_bits least most None is b e = cc
narrow_bits least most (Some bits) is b e = let same : bits ≡ b = cc in subst (λ (b : Bits). b.count ≤ most) same is.narrow

pub some_offset : (id : IdBits) → IfSome (offset_said (id_by id)) (IsBits 1 16) → ForSome (offset_in id) (λ b. 1 ≤ b.count)
some_offset id is = some_bits 1 16 (offset_in id) (offset_bits id is)

pub narrow_offset : (id : IdBits) → IfSome (offset_said (id_by id)) (IsBits 1 16) → ForSome (offset_in id) (λ b. b.count ≤ 16)
narrow_offset id is = narrow_bits 1 16 (offset_in id) (offset_bits id is)

pub whole_id : (id : IdBits) → is_whole id ≡ is_some (whole_said (id_by id))
whole_id Same = refl
whole_id (Offset bits) = refl
whole_id (Whole id) = refl

-- a check of 7 bits, and of 3
pub check_below : (uor2 : Bool) (check : ℕ) → check < 2 ^ (if uor2 then 7 else 3) → (check < 128) × (uor2 ≡ false → check < 8)
check_below true check l = (l, λ e. cc)
check_below false check l = (omega (arith, l), λ e. l)

-- what a form says lies in its ranges
form_good : (h : Header) (rnd udp_sum known : Bool) (form : Form) → All IsOctet h.rest → Ok (content form) ≡ form_at h rnd udp_sum known → IsGoodContent h.first udp_sum known (content form)
form_good h rnd udp_sum known form all is = says_good h rnd udp_sum known (content form) all ((reads h rnd udp_sum known (content form)).0 (sym is))

pub carried : (h : Header) (rnd udp_sum known : Bool) (r : Result Form FormRefusal) → All IsOctet h.rest → result_map_both content (λ e. e) r ≡ form_at h rnd udp_sum known →
    IfOk r (λ form. is_some form.udp_sum ≡ udp_sum)
carried h rnd udp_sum known (Ok form) all is = (form_good h rnd udp_sum known form all is).carried
carried h rnd udp_sum known (Err refusal) all is = tt

given_in : (values : Option Values) → stride_given (option_map values_by values) ≡ stride_in values
given_in None = refl
given_in (Some values) = refl

pub scaled : (h : Header) (rnd udp_sum known : Bool) (r : Result Form FormRefusal) → All IsOctet h.rest → result_map_both content (λ e. e) r ≡ form_at h rnd udp_sum known →
    IfOk r (λ form. form.tsc ≡ Some true → (known || is_some (stride_in form.values)) ≡ true)
scaled h rnd udp_sum known (Ok form) all is = λ e. ap (λ (stride : Option ℕ). known || is_some stride) (sym (given_in form.values)) ∙ (form_good h rnd udp_sum known form all is).scaled e
scaled h rnd udp_sum known (Err refusal) all is = tt
