-- The refusals: each cause has a number, the layer that it belongs to, and a sentence for the record. Assumes nothing.
use Rattle.std.specs.Prelude.{ℕ, List, ◌++◌, codes, decimal}
use Rattle.fault.specs.declared.cause.Cause.{Cause}
use Rattle.fault.specs.declared.cause.Cause.TheVariants as cause
use Rattle.fault.specs.declared.cause.Fault.{Fault}
use Rattle.fault.specs.declared.layer.Layer.{Layer}
use Rattle.fault.specs.declared.layer.Layer.TheVariants as layer

-- layer 1 reads text, 2 is the machine of calculators and their vetting, 3 a single function, 4 the set and its units
abbrev pub text_layer : ℕ
text_layer = 1

abbrev pub machine_layer : ℕ
machine_layer = 2

abbrev pub function_layer : ℕ
function_layer = 3

abbrev pub set_layer : ℕ
set_layer = 4

abbrev pub layer_number : Layer → ℕ
layer_number layer.Text = text_layer
layer_number layer.Machine = machine_layer
layer_number layer.Function = function_layer
layer_number layer.Set = set_layer

-- the number that a press controller logs; there is no 20
abbrev pub number_of : Cause → ℕ
number_of cause.SetList = 1
number_of cause.Count = 2
number_of cause.NotFinite = 3
number_of cause.UpsideDown = 4
number_of cause.CountsDisagree = 5
number_of cause.Size = 6
number_of cause.NoTable = 7
number_of cause.Part = 8
number_of cause.Bounds = 9
number_of cause.Depth = 10
number_of cause.UnknownWord = 11
number_of cause.TooManyDigits = 12
number_of cause.Brace = 13
number_of cause.Procedure = 14
number_of cause.Nesting = 15
number_of cause.Room = 16
number_of cause.NoFunction = 17
number_of cause.InputCount = 18
number_of cause.OutputList = 19
number_of cause.NoSample = 21
number_of cause.Operands = 22
number_of cause.FullStack = 23
number_of cause.Quotient = 24
number_of cause.Shift = 25
number_of cause.VetOperands = 26
number_of cause.VetUnknown = 27
number_of cause.VetBranches = 28
number_of cause.VetOutputs = 29
number_of cause.VetPart = 30
number_of cause.VetSamples = 31
number_of cause.UnitShape = 32
number_of cause.UnitStretch = 33
number_of cause.Stride = 34

abbrev pub layer_of : Cause → ℕ
layer_of cause.SetList = set_layer
layer_of cause.Count = function_layer
layer_of cause.NotFinite = function_layer
layer_of cause.UpsideDown = function_layer
layer_of cause.CountsDisagree = function_layer
layer_of cause.Size = function_layer
layer_of cause.NoTable = function_layer
layer_of cause.Part = function_layer
layer_of cause.Bounds = function_layer
layer_of cause.Depth = function_layer
layer_of cause.UnknownWord = text_layer
layer_of cause.TooManyDigits = text_layer
layer_of cause.Brace = text_layer
layer_of cause.Procedure = text_layer
layer_of cause.Nesting = text_layer
layer_of cause.Room = set_layer
layer_of cause.NoFunction = set_layer
layer_of cause.InputCount = set_layer
layer_of cause.OutputList = set_layer
layer_of cause.NoSample = function_layer
layer_of cause.Operands = machine_layer
layer_of cause.FullStack = machine_layer
layer_of cause.Quotient = machine_layer
layer_of cause.Shift = machine_layer
layer_of cause.VetOperands = machine_layer
layer_of cause.VetUnknown = machine_layer
layer_of cause.VetBranches = machine_layer
layer_of cause.VetOutputs = function_layer
layer_of cause.VetPart = function_layer
layer_of cause.VetSamples = function_layer
layer_of cause.UnitShape = set_layer
layer_of cause.UnitStretch = set_layer
layer_of cause.Stride = set_layer

-- the bytes of the sentence
abbrev pub sentence_of : Cause → List ℕ
sentence_of cause.SetList = codes "a list of the set is empty or too long"
sentence_of cause.Count = codes "a count of pairs, sizes, coefficients or parts is outside its limits"
sentence_of cause.NotFinite = codes "a number is not finite"
sentence_of cause.UpsideDown = codes "a Domain or Range pair is upside down"
sentence_of cause.CountsDisagree = codes "two counts that belong together disagree"
sentence_of cause.Size = codes "a Size or the number of samples is outside its limits"
sentence_of cause.NoTable = codes "the sample unit has no such table"
sentence_of cause.Part = codes "a part is not loaded or not of one input"
sentence_of cause.Bounds = codes "the Bounds fall or leave the Domain"
sentence_of cause.Depth = codes "the stitched functions are nested too deep"
sentence_of cause.UnknownWord = codes "a word is unknown or a delimiter stray"
sentence_of cause.TooManyDigits = codes "a number has too many digits"
sentence_of cause.Brace = codes "a brace is missing"
sentence_of cause.Procedure = codes "a procedure is missing, a third one or left over"
sentence_of cause.Nesting = codes "procedures are nested too deep"
sentence_of cause.Room = codes "too few free entries"
sentence_of cause.NoFunction = codes "no such function"
sentence_of cause.InputCount = codes "the number of inputs is not the Domain's"
sentence_of cause.OutputList = codes "the output list is too short"
sentence_of cause.NoSample = codes "a sample is missing"
sentence_of cause.Operands = codes "too few operands or a count too great"
sentence_of cause.FullStack = codes "a literal comes on a full stack"
sentence_of cause.Quotient = codes "a quotient does not exist"
sentence_of cause.Shift = codes "a shift is beyond 31 places"
sentence_of cause.VetOperands = codes "vetting: too few operands, or a count or the height is too great"
sentence_of cause.VetUnknown = codes "vetting: an operand is not known or not allowed"
sentence_of cause.VetBranches = codes "vetting: the two ways of a branch reach different heights"
sentence_of cause.VetOutputs = codes "vetting: output counts disagree, or a calculator has no Range"
sentence_of cause.VetPart = codes "vetting: a part is not vetted"
sentence_of cause.VetSamples = codes "vetting: the table holds too few samples"
sentence_of cause.UnitShape = codes "a sample unit has an unknown width or too many tables"
sentence_of cause.UnitStretch = codes "a stretch of a sample unit is outside its list, or a word is too great"
sentence_of cause.Stride = codes "the stride is 0"

-- the bytes of a fault in the record: the numbers of its cause and layer, where it arose, and the sentence
abbrev pub fault_text : Fault → List ℕ
fault_text e =
    codes "fault " ++ (decimal (number_of e.cause)
    ++ (codes " layer " ++ (decimal (layer_of e.cause)
    ++ (codes " index " ++ (decimal e.index
    ++ (codes " place " ++ (decimal e.place
    ++ (codes " (" ++ (sentence_of e.cause ++ codes ")")))))))))
