-- What the code's values mean.
use Rattle.std.specs.Prelude.{List, take, Option}
use Rattle.std.specs.Option.{option_map, option_to_list}
use Rattle.reader.specs.declared.parameters.Parameters as code
use Rattle.reader.specs.declared.standing.Standing as code_standing
use Rattle.reader.specs.declared.standing.Standing.TheVariants as at
use Rattle.reader.specs.declared.function.Function as code_function
use Rattle.reader.specs.declared.function.Function.TheVariants as f
use Rattle.reader.specs.declared.function.Completed.{Completed}
use Rattle.reader.specs.declared.function.Sequence.{Sequence}
use Rattle.reader.specs.Functions.{Parameter, Parameters, Function, graphic, control, reset, sequence}
use Rattle.reader.specs.Steps.{Standing, rest, escape, in_parameters, in_intermediates, in_string, in_sos}

-- the parameters in order
abbrev pub listed : code.Parameters → List Parameter
listed p = take p.count p.numbers

abbrev pub parameters_in : Option code.Parameters → Parameters
parameters_in p = option_map listed p

abbrev pub standing_of : code_standing.Standing → Standing
standing_of at.Rest = rest
standing_of (at.Escape intermediates) = escape intermediates
standing_of (at.Sequence p) = in_parameters (parameters_in p)
standing_of (at.Intermediates p) = in_intermediates (parameters_in p)
standing_of at.CommandString = in_string
standing_of (at.Sos escaped) = in_sos escaped

abbrev pub sequence_of : Sequence → Function
sequence_of s = sequence (listed s.parameters) s.space s.final_byte

abbrev pub function_of : code_function.Function → Function
function_of (f.Graphic b) = graphic b
function_of (f.Control b) = control b
function_of f.Reset = reset
function_of (f.Sequence s) = sequence_of s

-- the functions that a byte completed, in order
abbrev pub functions_of : Completed → List Function
functions_of c = option_to_list (option_map function_of c.function)
