mod BadStays
mod WholeOutputs
