mod Stepped
