pub mod WorkedExample
