-- Document 01, "Refusal numbers", and document 02, No. 5: the lines that the reader takes and the writer forms. Their bytes are the
-- device's `line_of`.
-- Assumes nothing.
use Rattle.std.specs.Prelude.{ℕ, Bool, false, not, ◌&&◌, ◌||◌, List, leb, ltb, eqb, length}
use Rattle.std.specs.Int.Signed.{non_neg}
use Rattle.answer.specs.Commands.{names, is_d, is_dw, is_m21, is_reset, is_s, is_si, is_sir, is_sr, is_t, is_ta, is_tac, is_ti, is_z, is_zi, place_i3, has_text}
use Rattle.answer.specs.declared.answer.Answer.{Answer}
use Rattle.answer.specs.declared.answer.Answer.TheVariants.{Nothing, Plain, Weight, ErrorLine, Text, Listed, CommandList, Versions, HostUnit}
use Rattle.answer.specs.declared.answer.Number.{Number}
use Rattle.answer.specs.declared.answer.Status.{Status}
use Rattle.answer.specs.declared.answer.Status.TheVariants.{A, B, S, D, I, L, Over, Under}
use Rattle.text.specs.Printable.{is_printable}
use Rattle.weight.specs.Places.{fits_field}

-- the identification of some command: for SI, SIR and SR it is S
abbrev pub is_identification : ℕ → Bool
is_identification c = ltb c (length names) && not (is_si c || is_sir c || is_sr c)

-- ---- an identification and a status alone

-- A for Z, TAC, D, DW, M21; S or D for ZI; + and - for S, Z, ZI, T, TI; L for S, D, TA, M21; I for every identification but @
abbrev pub plain_form : ℕ → Status → Bool
plain_form c A = is_z c || is_tac c || is_d c || is_dw c || is_m21 c
plain_form c B = false
plain_form c S = is_zi c
plain_form c D = is_zi c
plain_form c I = is_identification c && not (is_reset c)
plain_form c L = is_s c || is_d c || is_ta c || is_m21 c
plain_form c Over = is_s c || is_z c || is_zi c || is_t c || is_ti c
plain_form c Under = is_s c || is_z c || is_zi c || is_t c || is_ti c

-- ---- weights

-- after S S, S D, T S, TI S, TI D, TA A
abbrev pub weight_form : ℕ → Status → Bool
weight_form c A = is_ta c
weight_form c B = false
weight_form c S = is_s c || is_t c || is_ti c
weight_form c D = is_s c || is_ti c
weight_form c I = false
weight_form c L = false
weight_form c Over = false
weight_form c Under = false

-- 0 to 6 decimals, coarse 1 to 5, fits the field; the last four not negative
abbrev pub number_form : ℕ → Number → Bool
number_form c n = fits_field n.coarse n.decimals n.places.0 && (is_s c || non_neg n.places.0)

-- ---- texts

-- I2 and I3 0 to 40 characters, I4 and I5 0 to 20: bytes 32 to 255 without 34
abbrev pub text_form : ℕ → List ℕ → Bool
text_form c t = has_text c && (leb (length t) 20 || (leb c place_i3 && leb (length t) 40)) && is_printable t

-- ---- one line; t is the text of I2 to I5, and is empty beside every other answer

abbrev pub no_text : List ℕ → Bool
no_text t = eqb (length t) 0

abbrev pub can_form : Answer → List ℕ → Bool
can_form Nothing t = false
can_form (Plain h) t = plain_form h.identification h.status && no_text t
can_form (Weight h n) t = weight_form h.identification h.status && number_form h.identification n && no_text t
can_form (ErrorLine e) t = no_text t
can_form (Text c) t = text_form c t
can_form (Listed last c) t = ltb c (length names) && no_text t
can_form CommandList t = false
can_form Versions t = no_text t
can_form (HostUnit u) t = no_text t

-- the longest of these lines: I2 with a text of 40 bytes
abbrev pub longest_line : ℕ
longest_line = 49
